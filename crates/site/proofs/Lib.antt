pub mod ByHand
pub mod Makes
pub mod OneVlr
pub mod Places
pub mod Waits
