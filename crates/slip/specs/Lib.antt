pub mod Modes
pub mod Scripts
pub mod Lists
pub mod Laws
