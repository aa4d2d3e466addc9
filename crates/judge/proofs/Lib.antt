pub mod EntryLaws
pub mod StockTrue
pub mod PlaceLaws
pub mod SoonLaws
pub mod PartLaws
pub mod VerdictLaws
