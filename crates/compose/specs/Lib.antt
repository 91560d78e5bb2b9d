pub mod Compose
pub mod Parts
