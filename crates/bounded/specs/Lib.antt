pub mod Quantifiers
pub mod Mask
pub mod Table
