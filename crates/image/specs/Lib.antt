pub mod Image
pub mod Rebuild
pub mod Refused
pub mod Recorded
