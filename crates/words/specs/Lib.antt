pub mod Counting
pub mod Hexadecimal
