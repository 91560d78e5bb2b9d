pub mod Range
pub mod Turn
pub mod Walk
