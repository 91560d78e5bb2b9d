pub mod Job
pub mod Causes
pub mod Demands
pub mod Samples
pub mod Call
