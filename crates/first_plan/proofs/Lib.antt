pub mod Branches
pub mod Choices
pub mod Meaning
pub mod Prune
pub mod Samples
mod Supports
