pub mod Graph
pub mod Colouring
pub mod Scan
