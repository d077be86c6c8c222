pub mod Forwarders
pub mod Inner
pub mod TenantWorkers
