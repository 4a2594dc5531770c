pub mod Fits
pub mod Adding
pub mod Gives
pub mod Reading
pub mod Cases
pub mod Counts
