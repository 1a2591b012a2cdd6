mod BandCorners
mod CornerCount
mod CutCorners
mod UnderCovers
pub mod Fronts
pub mod OnDesks
