mod FourBounds
pub mod Padded
pub mod Pieces
mod Kept
