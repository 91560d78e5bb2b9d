pub mod Refusals
pub mod Opened
pub mod Unaltered
pub mod Started
pub mod Called
pub mod HandOrder
pub mod Call
pub mod Demands
