pub mod Numbers
pub mod PutBack
pub mod Call
pub mod Refusals
pub mod Causes
