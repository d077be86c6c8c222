pub mod Asking
pub mod Posting
