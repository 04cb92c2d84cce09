mod Kept
mod Tuples
