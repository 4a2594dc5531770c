pub mod Totals
pub mod Arrays
pub mod Delta
pub mod Nodes
pub mod Shared
pub mod Roots
