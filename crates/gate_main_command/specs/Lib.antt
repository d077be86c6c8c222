pub mod Faults
pub mod Faulty
pub mod Inner
pub mod Journals
pub mod Printed
pub mod StreamWords
pub mod Telling
