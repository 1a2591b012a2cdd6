pub mod ListLaws
mod PartsLaws
mod Going
mod Next
mod Steps
mod MadeLaws
mod Making
mod Ahead
mod Begun
pub mod Whole
mod Placing
pub mod Jobs
