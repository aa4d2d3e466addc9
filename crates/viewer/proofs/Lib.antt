pub mod PlaceLaws
pub mod ReplyLaws
pub mod Shorter
pub mod Examples
