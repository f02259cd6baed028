pub mod Buffering
pub mod PinnedRoots
