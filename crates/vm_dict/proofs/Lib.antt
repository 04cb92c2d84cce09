pub mod Reading
pub mod Taking
pub mod Entries
pub mod Copies
pub mod Items
pub mod Turns
pub mod Standing
pub mod DictionaryLaws
pub mod DequeLaws
mod Owning
