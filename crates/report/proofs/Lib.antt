pub mod Taken
pub mod Joining
pub mod Split
