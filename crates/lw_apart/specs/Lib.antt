pub mod TaskSteps
pub mod Apart
pub mod InTurn
