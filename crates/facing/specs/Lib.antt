pub mod Refused
pub mod Steps
