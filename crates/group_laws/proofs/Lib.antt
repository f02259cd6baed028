pub mod Listed
pub mod Exact
