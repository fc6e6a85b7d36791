pub mod Cases
pub mod Refusals
pub mod Output
pub mod Sorted
pub mod Decoded
pub mod Taken
pub mod Merged
pub mod Where
