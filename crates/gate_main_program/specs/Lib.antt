pub mod Inner
pub mod Said
