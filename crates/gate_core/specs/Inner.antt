-- Definitions that only private contracts and proofs cite: no public contract rests on them.
pub mod Faults
pub mod Needs
pub mod Pipelines
pub mod Replays
pub mod Sends
pub mod Steps
pub mod Views
