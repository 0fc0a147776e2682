pub mod Filling
pub mod Smaller
pub mod PassedUp
pub mod Wiping
pub mod Alternation
pub mod Endings
pub mod Stretches
pub mod Clearing
