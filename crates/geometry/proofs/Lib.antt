pub mod Answers
pub mod WorkLists
pub mod TurnFaces
pub mod CheckCut
pub mod OneFace
