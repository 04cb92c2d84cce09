pub mod Walks
pub mod Told
pub mod Entries
pub mod Bodies
pub mod Translations
