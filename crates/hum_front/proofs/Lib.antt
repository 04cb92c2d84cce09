pub mod Names
pub mod NamePlaces
pub mod Programs
pub mod Lines
