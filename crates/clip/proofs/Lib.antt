pub mod Cuts
pub mod Points
