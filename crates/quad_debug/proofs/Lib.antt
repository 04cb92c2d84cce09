mod Cutting
mod Journals
mod Unwritten
mod Rests
mod Waiting
mod AtRest
pub mod Runs
mod Going
mod Turned
mod Counting
mod Keeping
mod Rows
mod Queues
mod Written
mod Numbers
mod Searching
mod Reading
