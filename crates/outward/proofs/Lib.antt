pub mod Parting
pub mod Seeing
pub mod Stretches
pub mod Outward
pub mod Computed
pub mod Worked
pub mod Twice
