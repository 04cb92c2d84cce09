pub mod Pending
pub mod Starts
pub mod Waiting
