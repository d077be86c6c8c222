-- Definitions that only private contracts and proofs cite: no public contract rests on them.
pub mod Feeds
pub mod Splitting
pub mod Streams
