pub mod F64
pub mod Pick
pub mod Root
pub mod Nearest
pub mod Schoolbook
pub mod Steps
