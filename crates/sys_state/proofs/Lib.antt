pub mod Kept
mod Canisters
mod Text
pub mod Within
pub mod Entries
mod Last
mod Labels
pub mod MemoryPages
pub mod Indexed
pub mod OfState
