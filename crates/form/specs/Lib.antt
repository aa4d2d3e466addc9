pub mod Values
pub mod Compare
pub mod Fits
pub mod Reading
