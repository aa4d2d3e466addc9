pub mod RowLaws
pub mod NextLaws
pub mod ListLaws
pub mod VerdictLaws
