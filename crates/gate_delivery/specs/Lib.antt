pub mod Wanted
pub mod Ways
