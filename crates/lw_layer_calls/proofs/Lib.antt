pub mod RegisterLaws
pub mod RegisterSteps
pub mod LookingLaws
pub mod OneLayerLaws
pub mod UpdatingLaws
pub mod BlittingLaws
pub mod WindowLaws
