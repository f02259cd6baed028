-- Arenas taken in, steps over whoever sweeps, and the end of a collection.
pub mod Advancing
pub mod Done
pub mod EndSweeping
pub mod FirstOut
pub mod GroupEnding
pub mod GroupingLaws
pub mod Heaps
pub mod Kept
pub mod Laws
pub mod PresentCells
pub mod Runs
pub mod SetBits
pub mod Slots
pub mod TakingDue
pub mod TakingIn
