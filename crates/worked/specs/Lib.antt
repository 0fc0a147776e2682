pub mod Table
pub mod TurnFaces
pub mod Local
pub mod Area
pub mod CheckCut
pub mod Tests
