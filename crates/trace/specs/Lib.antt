pub mod Trace
pub mod Place
