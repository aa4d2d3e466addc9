pub mod Outcomes
pub mod Tight
