pub mod Turns
pub mod Threads
pub mod Ends
