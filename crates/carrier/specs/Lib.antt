pub mod Octets
pub mod Datagrams
pub mod Nodes
pub mod Waiting
pub mod Order
pub mod Chains
