pub mod Arrivals
pub mod Delivering
pub mod Maps
pub mod Readings
