pub mod States
pub mod Running
