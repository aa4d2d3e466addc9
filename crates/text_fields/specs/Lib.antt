pub mod FirstField
pub mod Fields
pub mod Starts
