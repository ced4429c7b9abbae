pub mod Answering
pub mod Chains
pub mod Times
pub mod Fronts
pub mod Questions
pub mod Turns
