pub mod Planes
pub mod Finite
pub mod Steps
