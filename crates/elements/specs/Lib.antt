pub mod Faults
pub mod Nodes
pub mod Codes
pub mod Backs
pub mod Table
pub mod Areas
pub mod Reading
pub mod Spelling
