pub mod Giving
pub mod Input
