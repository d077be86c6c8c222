pub mod Asked
pub mod Inner
pub mod Readers
