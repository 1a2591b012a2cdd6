pub mod Fills
pub mod AreaLines
