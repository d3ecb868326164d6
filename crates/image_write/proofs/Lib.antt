pub mod Measured
pub mod Only
