pub mod Map
pub mod Calls
pub mod Whole
pub mod Sweeps
pub mod Refused
pub mod Conditions
