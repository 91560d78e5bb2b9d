pub mod Words
pub mod Waiting
