pub mod Kept
pub mod NumbersInRuns
