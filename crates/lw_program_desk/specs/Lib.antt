pub mod Tiles
pub mod Views
pub mod Standing
pub mod Read
pub mod Noting
