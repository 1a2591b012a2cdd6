pub mod Letters
pub mod Templates
