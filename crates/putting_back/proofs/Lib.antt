pub mod Plan
pub mod Job
pub mod Demands
pub mod Ends
pub mod Causes
pub mod Unlawful
pub mod Call
