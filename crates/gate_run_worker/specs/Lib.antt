pub mod Inner
pub mod Workers
