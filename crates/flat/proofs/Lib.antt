pub mod Coordinates
pub mod Corners
pub mod Boxes
