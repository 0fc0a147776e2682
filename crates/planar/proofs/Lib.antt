pub mod Edges
pub mod Areas
