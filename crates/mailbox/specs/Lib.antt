pub mod Frames
pub mod Slots
pub mod Model
pub mod Waiting
pub mod Pairs
pub mod Order
