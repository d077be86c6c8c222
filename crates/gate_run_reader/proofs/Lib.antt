pub mod Asking
pub mod Readings
