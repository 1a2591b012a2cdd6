pub mod BlockLaws
pub mod PenLaws
pub mod MarkLaws
