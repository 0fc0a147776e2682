pub mod Words
pub mod Tests
pub mod Growth
pub mod ByKind
