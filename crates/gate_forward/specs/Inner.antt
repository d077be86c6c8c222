-- Definitions that only private contracts and proofs cite. No public contract names them.
pub mod Forwarding
pub mod Rooms
