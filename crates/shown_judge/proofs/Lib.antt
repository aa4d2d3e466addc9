pub mod RuleKept
pub mod TracedRows
pub mod PlacementRows
pub mod JudgedFiles
