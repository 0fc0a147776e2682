pub mod Outlines
pub mod Marks
pub mod Computed
pub mod Parallel
