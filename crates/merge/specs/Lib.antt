pub mod Accepted
pub mod Merging
