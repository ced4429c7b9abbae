pub mod Kinds
pub mod Mobiles
pub mod Lawful
pub mod Places
pub mod Spelling
pub mod Reading
pub mod Writing
