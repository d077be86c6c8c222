-- Definitions that only private contracts and proofs cite. No public contract rests on them.
pub mod Agreement
pub mod History
pub mod KeyOrder
pub mod Ring
pub mod Steps
