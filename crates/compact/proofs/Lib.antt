pub mod Owned
pub mod Counting
pub mod Ones
pub mod Counted
pub mod Walking
pub mod Finding
pub mod Packed
pub mod Moving
