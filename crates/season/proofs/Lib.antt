pub mod Sums
pub mod Cases
pub mod Quick
pub mod Tallies
pub mod StopTallies
pub mod Averages
