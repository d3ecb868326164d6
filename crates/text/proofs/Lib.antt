pub mod Decimal
pub mod Reading
pub mod Keys
pub mod Vectors
