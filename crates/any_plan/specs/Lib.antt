pub mod Question
pub mod Steps
