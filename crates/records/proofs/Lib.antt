pub mod Records
pub mod Images
pub mod Outcomes
pub mod Faults
pub mod Vectors
