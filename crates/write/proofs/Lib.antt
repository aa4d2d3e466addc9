pub mod RowLaws
pub mod NameLaws
pub mod MarkLaws
pub mod Anywhere
pub mod TextLaws
pub mod WholeLaws
pub mod NumberLaws
