pub mod InOrder
pub mod Known
