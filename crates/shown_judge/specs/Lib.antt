pub mod JudgeLists
