pub mod Counting
pub mod Records
pub mod Steps
pub mod Text
