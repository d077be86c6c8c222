pub mod Forwarders
pub mod Stages
pub mod TenantWorkers
