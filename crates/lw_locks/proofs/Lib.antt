mod Closing
mod Deeper
pub mod Groups
mod Later
mod Passes
pub mod Running
mod Seats
mod Slots
mod Starting
mod Stepping
