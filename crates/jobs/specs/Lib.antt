pub mod WithSheet
pub mod Sheets
pub mod Causes
