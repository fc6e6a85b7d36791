pub mod Search
pub mod Standing
