pub mod WorkLists
pub mod Steps
