pub mod Errors
pub mod Ranges
pub mod Index
pub mod Files
