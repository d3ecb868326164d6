pub mod Says
pub mod Tells
