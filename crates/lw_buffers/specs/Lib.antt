pub mod Lookup
pub mod Shared
