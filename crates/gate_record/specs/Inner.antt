-- Definitions that only private contracts, the view of `Text` and proofs cite. No public contract names them.
pub mod Fields
pub mod Tapes
pub mod Texts
