pub mod WeakNames
