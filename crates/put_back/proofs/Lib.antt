pub mod Refusals
pub mod Opened
pub mod Unaltered
pub mod Turns
pub mod Checked
pub mod Call
