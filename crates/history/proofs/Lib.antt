pub mod Turned
pub mod Outlook
pub mod Cases
pub mod Loop
pub mod Whole
