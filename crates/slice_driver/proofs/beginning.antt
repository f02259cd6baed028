-- The beginning of a collection, and of its marking: roots gathered and marked, and the worlds in which they begin.
pub mod Beginning
pub mod BeginsIn
pub mod Begun
pub mod BegunSteps
pub mod BegunToCome
pub mod GatheredRoots
pub mod MarkedRoots
pub mod Starting
pub mod Prepared
