pub mod LebSteps
pub mod LebAnswers
pub mod HexDigits
pub mod Strings
pub mod Stops
pub mod Judged
