pub mod ColumnLaws
pub mod FitLaws
pub mod RowRecords
pub mod HeldRecords
