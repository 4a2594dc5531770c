pub mod System
pub mod Calls
pub mod Reading
pub mod Fields
pub mod Memories
