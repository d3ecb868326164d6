pub mod Fields
pub mod Numbers
pub mod Decimals
