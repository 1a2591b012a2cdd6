pub mod Computing
pub mod Decided
