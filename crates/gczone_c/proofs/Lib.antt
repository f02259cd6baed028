pub mod Going
pub mod LooseValues
pub mod Sent
pub mod Slots
