pub mod Corners
pub mod Mentioned
pub mod Numbers
pub mod Pairs
