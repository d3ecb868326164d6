pub mod Runs
pub mod Digest
pub mod Lines
