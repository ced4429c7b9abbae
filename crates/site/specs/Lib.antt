pub mod ByHand
pub mod Making
pub mod Registers
pub mod Sites
