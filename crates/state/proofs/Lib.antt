pub mod Cases
pub mod Ended
pub mod Answer
