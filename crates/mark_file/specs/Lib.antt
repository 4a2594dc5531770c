pub mod Fits
pub mod Stops
pub mod Reading
pub mod Spells
