pub mod Calls
pub mod Owned
pub mod Reports
pub mod Statuses
