pub mod PageFiles
pub mod Positions
