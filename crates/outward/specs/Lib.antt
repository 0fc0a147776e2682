pub mod Convexity
pub mod Outward
pub mod Steps
