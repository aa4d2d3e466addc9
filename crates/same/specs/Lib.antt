pub mod Ignoring
pub mod SameRows
pub mod NextRows
pub mod SameLists
pub mod Verdicts
