pub mod Codes
pub mod Commands
pub mod Endings
pub mod Options
pub mod Script
pub mod Texts
pub mod Words
