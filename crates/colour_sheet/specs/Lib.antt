pub mod Argument
pub mod Text
