pub mod WordBits
pub mod Fields
pub mod SlotBits
pub mod Storing
pub mod LowestBit
pub mod AtBits
pub mod Uniting
pub mod Walking
pub mod Placing
pub mod Naming
pub mod Clearing
pub mod Changing
pub mod CellsAt
pub mod HandingOut
pub mod Indexing
pub mod Putting
pub mod Reserving
pub mod Visiting
pub mod Outs
pub mod Laws
pub mod DelayedCells
pub mod GivenUp
mod Forwarding
mod MovingCells
mod CellSets
mod Covered
