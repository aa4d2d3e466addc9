pub mod Views
pub mod Readers
