pub mod WholeRows
pub mod LineNumbers
pub mod Writable
pub mod Outcomes
pub mod Marks
