pub mod Bools
pub mod Lists
pub mod Tables
pub mod Bytes
pub mod Letters
pub mod Meanings
pub mod Integers
