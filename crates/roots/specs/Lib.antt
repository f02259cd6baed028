pub mod Buffers
pub mod RootsHeld
pub mod Pinned
