pub mod Colour
pub mod Parts
pub mod Samples
pub mod Call
