pub mod Buffers
pub mod Types
pub mod Parts
pub mod There
pub mod Back
pub mod Sizes
pub mod Exactly
