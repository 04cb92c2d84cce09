pub mod Script
pub mod Texts
pub mod Reading
pub mod Kept
pub mod Obeys
pub mod Parts
pub mod Laws
