-- Definitions that only private contracts and proofs cite: no public contract rests on them.
pub mod Journals
pub mod Rows
