pub mod ClassLaws
pub mod Histories
