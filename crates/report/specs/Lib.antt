pub mod Records
pub mod Report
