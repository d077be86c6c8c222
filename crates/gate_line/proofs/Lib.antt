pub mod FirstBytes
pub mod FirstLines
pub mod Numbers
pub mod Quoting
