pub mod Sorted
pub mod Starts
pub mod Written
pub mod Runs
pub mod Traces
