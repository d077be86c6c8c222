pub mod Paired
pub mod Places
pub mod Seated
pub mod Grouped
pub mod Turned
