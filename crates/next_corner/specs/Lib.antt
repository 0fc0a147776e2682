pub mod NextCorner
