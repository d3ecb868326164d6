pub mod Seen
pub mod Only
