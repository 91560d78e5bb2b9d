pub mod Causes
pub mod Stores
pub mod Rows
pub mod Pass
pub mod Fronts
