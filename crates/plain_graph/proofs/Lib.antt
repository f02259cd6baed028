pub mod Indexes
pub mod Walks
