pub mod Bytes
pub mod Tally
pub mod Steps
