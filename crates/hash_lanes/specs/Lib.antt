pub mod Lanes
pub mod Starts
pub mod Messages
