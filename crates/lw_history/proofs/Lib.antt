mod Told
mod CallTold
mod ArrangementTold
mod HistoryTold
mod ScrollTold
pub mod RunTold
