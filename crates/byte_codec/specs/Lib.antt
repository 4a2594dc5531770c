pub mod Gives
pub mod Hex
pub mod Leb
pub mod HexErrors
