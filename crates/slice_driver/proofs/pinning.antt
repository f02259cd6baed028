-- Registers and pinned roots hold other cells of those that they held.
pub mod Held
pub mod Pinned
pub mod Sessions
pub mod Valid
