pub mod Fronts
pub mod Sound
mod Computing
mod Rows
mod Numbers
mod Parts
mod NameForms
mod Searches
mod Formed
pub mod Fits
mod Spelled
pub mod WrittenItems
pub mod WrittenModules
pub mod WrittenNames
pub mod WrittenParts
pub mod WrittenWords
pub mod WrittenLines
mod Written
mod HasLines
