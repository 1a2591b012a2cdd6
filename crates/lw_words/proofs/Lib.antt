mod BitsBehind
mod CutLines
mod CutWords
pub mod Binds
pub mod HexDigits
mod Numbers
pub mod Targets
