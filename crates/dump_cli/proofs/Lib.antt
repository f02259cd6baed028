pub mod Fine
pub mod Judging
pub mod Only
pub mod Read
