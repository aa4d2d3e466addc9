pub mod ColumnLaws
pub mod EachKind
