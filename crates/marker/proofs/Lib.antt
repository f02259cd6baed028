pub mod BlackSteps
pub mod Starting
pub mod Graying
mod Scans
pub mod Shading
pub mod WeakPoint
mod Queued
pub mod Looking
pub mod GrayLoops
pub mod WaitingLists
pub mod GraySteps
pub mod GrayUnits
mod LookSteps
pub mod UnitsToCome
