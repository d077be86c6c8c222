pub mod Built
pub mod Entry
pub mod FaultText
pub mod Inner
pub mod Laws
pub mod Pattern
pub mod Rule
