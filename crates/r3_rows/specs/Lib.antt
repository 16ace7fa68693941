pub mod Keys
pub mod KeyOrder
pub mod Pairs
pub mod Words
