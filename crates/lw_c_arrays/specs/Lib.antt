pub mod Lists
pub mod Combined
pub mod Answers
pub mod Rows
