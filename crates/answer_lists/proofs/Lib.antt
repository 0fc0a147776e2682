pub mod Corners
pub mod Writing
