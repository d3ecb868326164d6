pub mod Told
pub mod Writing
pub mod Outcomes
