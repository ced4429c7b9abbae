pub mod Outcomes
pub mod Tallies
