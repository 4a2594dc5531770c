pub mod Lists
pub mod Choosing
pub mod Kept
pub mod Taken
