pub mod Forwarding
pub mod Histories
pub mod Inner
pub mod States
