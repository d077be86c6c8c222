pub mod Workings
