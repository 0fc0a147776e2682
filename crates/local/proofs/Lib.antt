pub mod Integers
pub mod InUnits
pub mod Rounded
pub mod AddedBack
pub mod Itself
pub mod WholePart
pub mod Exact
pub mod Moving
