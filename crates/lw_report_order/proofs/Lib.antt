mod OrderAnswers
mod OrderLoop
pub mod OrderNumbers
pub mod OrderSections
