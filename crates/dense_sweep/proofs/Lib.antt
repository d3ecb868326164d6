pub mod Asking
pub mod Swept
