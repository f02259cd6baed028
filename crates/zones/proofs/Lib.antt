pub mod Grouping
pub mod Stopping
