pub mod ClipStep
pub mod Doubled
pub mod Steps
