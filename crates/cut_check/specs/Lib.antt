pub mod CutCheck
pub mod Steps
