pub mod Pieces
pub mod Vectors
