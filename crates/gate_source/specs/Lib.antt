pub mod Cuttings
pub mod Feeds
pub mod Inner
pub mod Sources
pub mod Splitting
pub mod Stops
pub mod Streams
