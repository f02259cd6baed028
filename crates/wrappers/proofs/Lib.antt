pub mod Finding
mod Forwarding
pub mod Adding
pub mod Dropping
pub mod Lists
pub mod NotedZones
