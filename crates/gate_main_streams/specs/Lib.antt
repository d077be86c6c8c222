pub mod Addresses
pub mod Streams
