pub mod Values
pub mod Fields
pub mod Lists
pub mod Sameness
