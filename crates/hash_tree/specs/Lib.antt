pub mod View
pub mod Hashes
pub mod Levels
pub mod Stack
pub mod Canisters
