pub mod Printed
pub mod Streams
