pub mod Counts
mod Entered
mod NameLists
mod Nodes
mod Parts
mod Sights
mod Stretches
