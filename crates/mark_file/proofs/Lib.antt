pub mod Looping
pub mod MemoryLaws
pub mod Bodies
pub mod Wholes
pub mod Once
pub mod SystemRows
