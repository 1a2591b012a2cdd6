pub mod Differing
pub mod OrderAnswers
pub mod OrderReading
pub mod OrderSection
