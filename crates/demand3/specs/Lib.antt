pub mod Demand3
pub mod Area
pub mod Cube
pub mod TurnFaces
pub mod Turns
pub mod Local
pub mod CheckCut
pub mod Tests
