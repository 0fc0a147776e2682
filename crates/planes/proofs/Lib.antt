pub mod Stored
pub mod Faces
pub mod Sums
pub mod Norm
pub mod NoArea
pub mod Finite
pub mod Worked
