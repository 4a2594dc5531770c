pub mod Changes
pub mod Memories
pub mod StateKept
