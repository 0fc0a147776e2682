pub mod Trimming
pub mod Spacing
pub mod Computed
pub mod Surely
