pub mod Evened
pub mod Gap
pub mod Linked
pub mod Tallying
pub mod Worked
