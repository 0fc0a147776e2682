pub mod Ray
pub mod Inside
pub mod Steps
