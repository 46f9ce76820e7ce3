pub mod Vertices
pub mod Printed
pub mod ReadBack
