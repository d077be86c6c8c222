pub mod FactLines
pub mod FactQueues
pub mod FactTurns
pub mod Following
pub mod Numbered
pub mod Pushed
