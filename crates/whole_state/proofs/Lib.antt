pub mod WholeFiles
pub mod Giving
pub mod Marked
pub mod Images
pub mod Made
pub mod Standing
pub mod Spent
