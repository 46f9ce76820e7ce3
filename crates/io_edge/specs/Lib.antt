pub mod Devices
pub mod View
pub mod Lines
pub mod Cuts
pub mod FirstFault
pub mod MemFiles
pub mod MemBytes
pub mod WholeRead
