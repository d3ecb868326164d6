pub mod Script
pub mod Input
pub mod Machine
pub mod Ready
