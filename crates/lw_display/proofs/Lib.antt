mod ScriptLines
mod NamesKept
mod FirstBad
mod LinesPass
mod SceneSteps
mod SceneAdded
pub mod Showable
pub mod Computing
