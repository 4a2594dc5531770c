pub mod Ends
pub mod Reading
pub mod Room
pub mod Stops
pub mod Turns
