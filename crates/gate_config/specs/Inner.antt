-- Definitions that only private contracts and proofs cite. No public contract rests on them.
pub mod Attributes
pub mod Comparing
pub mod Faults
pub mod Documents
pub mod Filters
pub mod Found
pub mod Jobs
pub mod Keyed
pub mod Listed
pub mod Lookups
pub mod Steps
pub mod Structures
pub mod Wanted
