pub mod WholeScripts
pub mod CanonicalTexts
pub mod LinesBelow
pub mod Refused
pub mod SpelledPlans
pub mod VersionLines
pub mod AreaScripts
pub mod GzzScripts
