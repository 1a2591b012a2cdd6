pub mod Touched
pub mod Refusing
pub mod Laws
pub mod Changed
