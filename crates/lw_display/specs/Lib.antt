pub mod Shows
pub mod ShowLines
pub mod ShowRule
pub mod ShowTexts
pub mod ShowLaws
pub mod ShowAnswers
pub mod ShowMeaning
pub mod ShowCases
