pub mod Cuts
pub mod Kept
pub mod LineEnds
pub mod Numbers
pub mod Reading
pub mod Whole
