pub mod Owned
pub mod Stamped
pub mod Whole
pub mod Lives
pub mod Ranges
pub mod Written
pub mod Causes
pub mod Memories
