pub mod Blitting
pub mod Moves
