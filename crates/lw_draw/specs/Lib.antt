pub mod Blocks
pub mod Combined
pub mod Drawn
pub mod LineSpans
pub mod Quotients
pub mod Stretches
pub mod Walks
