pub mod Polygons
pub mod Patterns
pub mod Areas
pub mod Rows
