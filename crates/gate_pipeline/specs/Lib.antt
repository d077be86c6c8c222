pub mod Histories
pub mod Inner
pub mod Limits
pub mod Passes
pub mod States
pub mod Triggers
