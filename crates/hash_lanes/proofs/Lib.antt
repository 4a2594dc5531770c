pub mod EachLane
pub mod Windows
pub mod BlockWords
pub mod Joined
pub mod Rows
pub mod Ended
