pub mod Compiling
pub mod Finding
pub mod Inner
pub mod Knowing
pub mod Marks
pub mod Narrowing
