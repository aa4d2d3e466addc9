pub mod LineKinds
pub mod Rows
pub mod Meaning
