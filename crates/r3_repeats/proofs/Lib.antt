mod Same
mod Writing
mod Keeping
mod Bringing
pub mod Growing
mod Beginning
mod Firsts
mod Telling
pub mod Placing
pub mod Holding
mod Storing
mod Expecting
mod Making
mod Worked
mod WorkedStarts
mod WorkedSteps
