pub mod Counts
mod RowsRead
