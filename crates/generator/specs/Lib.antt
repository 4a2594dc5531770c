pub mod Draws
pub mod Places
pub mod Script
pub mod Summary
