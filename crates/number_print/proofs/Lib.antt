pub mod PrintLaws
pub mod PrintSpelling
