pub mod Behind
pub mod Bitmaps
pub mod Families
pub mod Grouping
pub mod Parts
