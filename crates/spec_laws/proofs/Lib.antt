pub mod Starts
pub mod Dumped
pub mod Tight
pub mod WeakKept
pub mod RunNumbers
