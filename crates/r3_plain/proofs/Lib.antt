mod Closed
mod DerivedOrder
mod LastWrites
mod RowLemmas
mod Sorting
mod Stepped
mod Turns
mod Writers
