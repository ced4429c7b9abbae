pub mod Tallies
pub mod Verbs
