pub mod Truth
pub mod Quantifiers
pub mod Loops
pub mod Mask
pub mod Members
pub mod Table
pub mod Guard
pub mod Causes
