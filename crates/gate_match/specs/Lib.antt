pub mod Inner
pub mod Selecting
