pub mod Lookups
pub mod Bound
