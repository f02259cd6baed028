pub mod Buffering
pub mod Causes
pub mod Finding
pub mod Kept
pub mod Lines
pub mod Memory
