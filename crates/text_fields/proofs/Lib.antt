pub mod FieldLaws
pub mod Bounds
pub mod Walk
pub mod Counting
pub mod StartLaws
pub mod FieldSpelling
