pub mod Back
pub mod Found
pub mod Lowest
pub mod Undo
