pub mod Piles
pub mod Pushed
