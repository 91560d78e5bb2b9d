pub mod Found
pub mod Undone
