mod Examples
mod ListExamples
mod EventExamples
mod RoundTrip
pub mod Spellings
pub mod Charges
pub mod ByState
pub mod Assignments
pub mod GotWords
pub mod KnownWords
pub mod Authorities
pub mod ShownWords
pub mod Makings
pub mod Plain
