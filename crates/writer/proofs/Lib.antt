pub mod Scan
pub mod First
pub mod Parts
pub mod Cases
