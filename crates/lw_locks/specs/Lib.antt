pub mod Openings
pub mod Seen
pub mod Joins
pub mod Promised
pub mod Called
pub mod Held
pub mod Closing
pub mod Groups
