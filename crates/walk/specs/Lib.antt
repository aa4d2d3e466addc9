pub mod Judging
pub mod Walks
pub mod Turns
