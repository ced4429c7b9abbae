pub mod Headers
pub mod Exactly
pub mod Written
