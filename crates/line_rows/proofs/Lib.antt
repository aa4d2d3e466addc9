pub mod LookLaws
pub mod EntryLaws
pub mod FillLaws
pub mod MeaningLaws
pub mod RowMeaning
