pub mod Checking
pub mod Digits
pub mod Seen
pub mod Words
