pub mod Format
pub mod Writing
