pub mod Odd
pub mod Toggles
pub mod Passing
pub mod Slabs
pub mod Closed
pub mod Parts
pub mod Stacked
pub mod Sweeps
