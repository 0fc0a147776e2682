pub mod Loops
pub mod Lists
pub mod Ring
pub mod Stored
pub mod Steps
pub mod Limits
pub mod Refusals
