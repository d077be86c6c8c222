pub mod Columns
pub mod GivenBack
pub mod Limits
pub mod Marks
pub mod Parts
