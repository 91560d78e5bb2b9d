pub mod Laws
pub mod Found
pub mod Marks
