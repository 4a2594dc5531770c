pub mod Grown
pub mod Hashed
pub mod Keeping
pub mod Lines
pub mod MemoryLines
pub mod Pairs
pub mod Sized
pub mod Stepped
