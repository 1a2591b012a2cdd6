pub mod Words
pub mod Together
pub mod Apart
pub mod Examples
pub mod Recognition
