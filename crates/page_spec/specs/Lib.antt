pub mod PageFile
pub mod Layers
pub mod Example
pub mod Computing
pub mod Whole
