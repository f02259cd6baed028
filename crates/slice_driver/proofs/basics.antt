-- Zones, cells, marks and worlds by themselves: what the other folders stand on.
pub mod Cells
pub mod LeftLooks
pub mod Marks
pub mod NamesWeakly
pub mod Owners
pub mod Rows
pub mod Sorted
pub mod Woken
pub mod Worlds
pub mod Zones
