pub mod Edges
pub mod Blackening
pub mod Markers
pub mod Ahead
