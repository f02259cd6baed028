pub mod Ascending
pub mod Jobs
pub mod Taking
