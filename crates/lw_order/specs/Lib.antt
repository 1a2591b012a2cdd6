pub mod Roles
pub mod Owned
pub mod Numbered
pub mod Seen
pub mod Promised
pub mod Rule
pub mod Plays
