-- Definitions that only private contracts and proofs cite. No public contract rests on them.
pub mod Lines
