pub mod Counts
pub mod Laws
pub mod Sound
pub mod Steps
pub mod Tables
