pub mod ByteLaws
pub mod LineLaws
pub mod LineSpelling
pub mod LineFeeds
pub mod Copies
