pub mod Chosen
mod Examples
pub mod Joined
pub mod Rows
