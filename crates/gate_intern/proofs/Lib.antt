pub mod GivenBack
pub mod Marks
pub mod Numbered
pub mod Pushed
pub mod Rows
pub mod Seen
pub mod Slots
