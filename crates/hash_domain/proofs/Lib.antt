pub mod Feeding
pub mod Counting
pub mod Zeros
pub mod Summing
