pub mod Degrees
pub mod Tally
pub mod Copy
pub mod Given
pub mod Gathered
pub mod GivenPart
