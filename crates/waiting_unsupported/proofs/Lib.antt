pub mod Words
pub mod Mended
pub mod Search
