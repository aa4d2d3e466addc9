pub mod LineText
