pub mod Numbers
pub mod Run
pub mod Call
pub mod Refusals
pub mod Causes
