pub mod Looks
pub mod Only
