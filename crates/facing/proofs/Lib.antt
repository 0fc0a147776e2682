pub mod Going
pub mod Spread
pub mod Neighbours
pub mod Rounds
pub mod Reversing
pub mod Chosen
pub mod Reversed
