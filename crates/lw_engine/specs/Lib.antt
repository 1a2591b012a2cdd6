pub mod Desks
pub mod Counted
pub mod Layers
pub mod Slots
pub mod Owners
pub mod ScreenParts
pub mod PartsMade
pub mod Arranging
