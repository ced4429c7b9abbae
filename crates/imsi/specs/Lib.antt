pub mod Halves
pub mod Spelling
pub mod Written
