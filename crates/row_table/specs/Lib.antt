pub mod Loaded
pub mod Index
pub mod Sieve
pub mod Chains
pub mod Joined
