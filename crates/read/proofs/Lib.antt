pub mod ReplyLaws
pub mod MarkLaws
pub mod RowWidths
pub mod RowLaws
