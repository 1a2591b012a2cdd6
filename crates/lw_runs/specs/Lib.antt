pub mod Standing
pub mod Run
pub mod Made
pub mod Whole
