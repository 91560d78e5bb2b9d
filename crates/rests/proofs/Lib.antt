pub mod Rests
pub mod Changes
