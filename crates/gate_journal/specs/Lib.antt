pub mod Causes
pub mod Facts
pub mod Follows
pub mod Inner
pub mod Lines
pub mod Live
pub mod Members
pub mod Queues
