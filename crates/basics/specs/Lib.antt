pub mod Integers
pub mod Letters
