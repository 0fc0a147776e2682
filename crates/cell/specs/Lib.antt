pub mod Faces
pub mod Refusals
pub mod SoundCell
pub mod Steps
