pub mod Reading
pub mod Begins
