pub mod Hypot
pub mod Nearest
pub mod Steps
