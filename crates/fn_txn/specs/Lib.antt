pub mod RowKeys
pub mod LogCode
pub mod LookPlaces
pub mod Journals
pub mod Rows
pub mod Held
pub mod Texts
pub mod Runs
