mod Results
mod Turned
mod Completed
mod Counts
pub mod Booted
pub mod Rests
