pub mod Lists
pub mod Putting
pub mod Stacking
pub mod Ids
pub mod Levelling
pub mod Growing
pub mod Hashing
