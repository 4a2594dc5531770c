pub mod Answers
pub mod Gives
pub mod Strings
pub mod Level
pub mod Parts
pub mod Shows
