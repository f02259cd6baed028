pub mod Indexed
pub mod Reach
