pub mod Framing
pub mod Telling
