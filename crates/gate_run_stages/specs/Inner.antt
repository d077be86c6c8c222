-- Definitions that only private contracts and proofs cite. No public contract names them.
pub mod Forwarders
pub mod Stages
pub mod TenantWorkers
