pub mod Collected
pub mod Graphs
pub mod Numbers
pub mod Replies
