pub mod PaddedLaws
pub mod SeekLaws
pub mod RowLaws
pub mod KeywordLaws
