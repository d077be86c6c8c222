pub mod Lists
pub mod Seats
pub mod QueueGroups
pub mod Steps
pub mod Tables
