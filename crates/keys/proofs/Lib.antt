pub mod Bits
pub mod Keys
pub mod Versions
pub mod Vectors
