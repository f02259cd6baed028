-- In layers: each folder uses those above it alone.
pub mod basics
pub mod abstraction
pub mod group_end
pub mod grouping
pub mod taking_in
pub mod measure
pub mod clearing
pub mod marking
pub mod beginning
pub mod commanding
pub mod resetting
pub mod dumping
pub mod packing
pub mod pinning
pub mod Sent
