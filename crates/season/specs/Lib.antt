pub mod Tally
pub mod Season
