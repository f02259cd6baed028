-- A collection that is being prepared: its arenas are cleared.
pub mod AtStart
pub mod Bounds
pub mod ClearedArenas
pub mod Clearing
pub mod ClearingUnits
pub mod Few
pub mod ToCome
