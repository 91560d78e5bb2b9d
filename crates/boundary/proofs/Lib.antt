pub mod Bytes
pub mod Crossing
pub mod Answers
