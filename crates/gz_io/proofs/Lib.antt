pub mod Between
pub mod Buffer
pub mod Lanes
pub mod Once
pub mod Pieces
pub mod Plain
pub mod Reading
