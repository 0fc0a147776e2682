pub mod Points
pub mod Flat
pub mod Steps
