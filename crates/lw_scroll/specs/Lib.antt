pub mod Blocks
pub mod Scrolled
pub mod Marks
