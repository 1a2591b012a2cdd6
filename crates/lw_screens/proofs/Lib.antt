pub mod Owners
pub mod Runs
pub mod Changes
pub mod Orders
pub mod Rows
pub mod Computing
