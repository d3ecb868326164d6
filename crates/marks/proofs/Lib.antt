pub mod Turns
pub mod Marks
