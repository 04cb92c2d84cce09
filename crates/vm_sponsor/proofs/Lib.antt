pub mod Plain
pub mod Rows
pub mod Steps
pub mod Made
pub mod Framed
