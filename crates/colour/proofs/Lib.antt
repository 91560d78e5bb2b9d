pub mod Filling
pub mod Job
pub mod Causes
pub mod Plans
pub mod Samples
pub mod Call
