pub mod Places
pub mod Dispatch
pub mod Fits
pub mod Blind
