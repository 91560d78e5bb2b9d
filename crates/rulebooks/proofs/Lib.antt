pub mod Force
pub mod Wider
pub mod Samples
