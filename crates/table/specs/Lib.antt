pub mod Table
pub mod Calls
pub mod Sound
pub mod Sweeps
pub mod Steps
pub mod Thread
pub mod Refused
pub mod Frames
