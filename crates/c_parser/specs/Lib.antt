pub mod Bases
pub mod Behind
pub mod Branches
pub mod Faults
pub mod Flagged
pub mod Program
pub mod Starts
