pub mod Ascending
pub mod Starting
pub mod Appending
pub mod FirstToGo
