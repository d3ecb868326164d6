pub mod Lines
pub mod Texts
pub mod Only
pub mod Vectors
