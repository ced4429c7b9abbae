pub mod Chains
pub mod Codes
pub mod Elements
pub mod Optional
pub mod Areas
