pub mod Marks
pub mod Table
pub mod Full
pub mod Stamps
pub mod Rows
