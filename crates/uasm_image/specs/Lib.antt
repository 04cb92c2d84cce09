pub mod Spelled
pub mod Reading
pub mod Refused
pub mod Listed
pub mod Laws
