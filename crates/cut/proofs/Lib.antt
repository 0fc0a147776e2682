pub mod Going
pub mod Storing
pub mod Facts
pub mod Computed
pub mod ByPlace
