-- The dump of a collector: what the heap lists by name, and the worlds that it stands for.
pub mod Listed
pub mod Fields
pub mod Held
pub mod Reading
pub mod NextGray
pub mod Worlds
pub mod Orders
pub mod Entries
pub mod Written
