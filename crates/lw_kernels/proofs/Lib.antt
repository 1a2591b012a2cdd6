pub mod ByteLaws
pub mod RowWriting
pub mod CopiedBytes
pub mod PairLaws
pub mod SpanLaws
pub mod WordLaws
pub mod WideLaws
pub mod ColumnLaws
