pub mod Layout
pub mod State
pub mod Parts
pub mod Fields
