pub mod WholeRows
pub mod RowsCarried
pub mod NamedOnce
pub mod RowsWritten
pub mod RoundTrip
pub mod Examples
