pub mod Decimals
pub mod Lined
pub mod Options
pub mod Reading
pub mod Searching
