pub mod Examples
pub mod Exchanges
pub mod InRange
pub mod Sessions
