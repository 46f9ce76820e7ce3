pub mod Bounds
pub mod DegreeCut
