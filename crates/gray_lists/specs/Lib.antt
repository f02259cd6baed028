pub mod Incoming
pub mod Nodes
pub mod CompSets
