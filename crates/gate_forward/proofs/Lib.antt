pub mod Addressed
pub mod Sending
