pub mod Lines
pub mod Fields
pub mod Forms
pub mod Parted
pub mod Reading
pub mod Sentences
pub mod Turned
