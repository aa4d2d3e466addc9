pub mod NumberLaws
pub mod NumberSpelling
pub mod IntegerLaws
pub mod IntegerSpelling
pub mod DateLaws
pub mod Cases
