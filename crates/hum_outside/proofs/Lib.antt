pub mod Fronts
mod Pieces
