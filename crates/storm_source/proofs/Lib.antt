pub mod Exact
pub mod Giving
pub mod Rows
pub mod Spelled
