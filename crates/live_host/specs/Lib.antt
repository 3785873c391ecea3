pub mod Live
pub mod Records
