pub mod Damaged
