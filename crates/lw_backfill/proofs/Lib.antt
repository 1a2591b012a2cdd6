pub mod Tiles
pub mod ShelfLaws
