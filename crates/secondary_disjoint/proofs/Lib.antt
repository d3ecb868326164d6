pub mod Marks
pub mod Runs
pub mod Gives
pub mod Only
