pub mod Flattened
pub mod Tables
pub mod Wedge
pub mod Worked
