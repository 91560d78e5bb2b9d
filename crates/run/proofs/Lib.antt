pub mod Refusals
pub mod Opened
pub mod Unaltered
pub mod Ran
pub mod Worked
pub mod Fronted
pub mod Call
