pub mod Cut
pub mod Claim
