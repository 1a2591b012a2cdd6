pub mod Cases
pub mod Laws
pub mod Packing
pub mod Pictures
pub mod Reading
pub mod Rows
pub mod Steps
