pub mod Inner
pub mod Masks
