pub mod Parts
pub mod Read
pub mod Back
pub mod Turns
pub mod Place
