pub mod AsBox
mod ColumnLaws
mod HandleLaws
mod PenLaws
mod ChangeLaws
