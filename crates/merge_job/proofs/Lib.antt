pub mod Chosen
pub mod Stepped
pub mod Merged
pub mod Plans
