mod Twice
mod Steps
mod Bounds
mod Images
