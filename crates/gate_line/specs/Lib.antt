pub mod Fields
pub mod Inner
pub mod Posts
pub mod Words
