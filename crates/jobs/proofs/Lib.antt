pub mod Opened
pub mod SheetCause
