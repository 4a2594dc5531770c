pub mod Fresh
pub mod Linked
pub mod Views
