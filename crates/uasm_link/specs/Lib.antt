pub mod Answers
pub mod Numbering
pub mod Linkable
