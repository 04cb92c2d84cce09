pub mod Words
pub mod Fixnums
pub mod Laws
pub mod Text
pub mod Store
pub mod Seen
pub mod Frame
