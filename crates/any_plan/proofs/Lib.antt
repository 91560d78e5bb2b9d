pub mod Laws
pub mod Branches
