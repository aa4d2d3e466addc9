pub mod Columns
pub mod RowKinds
