mod Drawn
mod Listed
pub mod Plans
