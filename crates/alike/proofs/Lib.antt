pub mod Alike
pub mod Crossed
