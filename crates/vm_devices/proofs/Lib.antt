mod Reading
pub mod Trees
pub mod Counts
pub mod Writings
pub mod Spines
pub mod Plain
pub mod Names
pub mod Speeches
pub mod Deliveries
