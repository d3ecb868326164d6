pub mod Turns
pub mod Only
