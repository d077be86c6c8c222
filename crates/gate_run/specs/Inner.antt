-- Definitions that only private contracts and proofs cite: no public contract rests on them.
pub mod Finishing
pub mod Gatherings
pub mod Queues
pub mod Seatings
pub mod Works
