pub mod Texts
pub mod Delivery
pub mod Laws
