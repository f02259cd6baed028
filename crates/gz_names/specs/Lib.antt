pub mod DumpTexts
pub mod Dumps
pub mod Moves
pub mod Order
pub mod Zones
