pub mod RoleLaws
pub mod OnceLaws
pub mod HistoryLaws
pub mod Bound
pub mod ViewLaws
pub mod Steps
