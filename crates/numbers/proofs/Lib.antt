pub mod Numbers
pub mod Encoded
pub mod Reading
pub mod Bounds
pub mod Words
pub mod Outcomes
pub mod Vectors
