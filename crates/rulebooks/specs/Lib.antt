pub mod Under
pub mod Samples
