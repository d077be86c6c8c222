pub mod Dispatching
pub mod Histories
pub mod Inner
pub mod Limits
pub mod States
