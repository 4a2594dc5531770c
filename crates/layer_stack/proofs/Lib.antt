pub mod Newest
pub mod Unions
pub mod RunBytes
