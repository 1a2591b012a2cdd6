pub mod ByHistory
pub mod Scrolls
pub mod Laws
