pub mod Apart
pub mod Batches
pub mod Ends
pub mod Eventless
pub mod Getting
pub mod Holding
pub mod Ranges
pub mod Shares
