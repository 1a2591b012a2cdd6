pub mod Registers
pub mod Parts
pub mod Open
pub mod Windows
