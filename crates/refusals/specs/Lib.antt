pub mod Refusals
pub mod Steps
