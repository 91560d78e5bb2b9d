pub mod After
pub mod Bounds
pub mod Full
pub mod Laws
pub mod First
