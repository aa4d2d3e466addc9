pub mod Entries
pub mod Stocked
pub mod Verdicts
pub mod Parts
