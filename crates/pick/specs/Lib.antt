pub mod Pick
pub mod Samples
pub mod Call
