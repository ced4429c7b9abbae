pub mod Nibbles
pub mod Values
pub mod Tens
pub mod Octets
pub mod Spelt
pub mod Pairs
pub mod Round
