pub mod Cuts
pub mod Digits
pub mod Stops
pub mod TokenMeaning
