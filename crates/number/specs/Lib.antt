pub mod Signs
pub mod Limits
pub mod Numbers
pub mod Integers
