pub mod Triangles
pub mod Volume
pub mod Steps
