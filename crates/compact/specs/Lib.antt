pub mod Arenas
pub mod Packing
pub mod Holes
pub mod Packed
