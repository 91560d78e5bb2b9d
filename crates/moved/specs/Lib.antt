pub mod Move
pub mod Samples
pub mod Call
