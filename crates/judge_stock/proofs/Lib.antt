pub mod PackLaws
pub mod StockLaws
