pub mod Changed
pub mod Counted
pub mod Changes
pub mod Handing
pub mod Gained
pub mod Carrying
pub mod Pairing
