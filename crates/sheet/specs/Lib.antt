pub mod Sheet
pub mod Relation
pub mod Row
pub mod Parts
pub mod Refusals
pub mod Causes
