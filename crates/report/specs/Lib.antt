pub mod Report
pub mod Split
