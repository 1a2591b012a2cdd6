pub mod Generator
pub mod Demo
pub mod Laws
