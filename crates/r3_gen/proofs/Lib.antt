mod Counting
mod Generating
mod Saying
mod Starting
