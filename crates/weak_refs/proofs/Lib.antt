mod Dropping
mod Forwarding
