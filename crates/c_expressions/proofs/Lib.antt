pub mod Heads
pub mod OperatorTests
pub mod Sums
pub mod Arguments
pub mod Forms
pub mod Operands
