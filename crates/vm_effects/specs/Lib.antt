pub mod Links
pub mod Rewritten
pub mod Gathered
pub mod Actors
