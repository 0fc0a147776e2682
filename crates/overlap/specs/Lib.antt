pub mod Tolerances
pub mod Overlap
pub mod Steps
