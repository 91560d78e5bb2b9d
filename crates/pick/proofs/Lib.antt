pub mod Left
pub mod Causes
pub mod Job
pub mod Demands
pub mod Samples
pub mod Call
