-- What a collector stands for: cells by places and by names, the worlds in which a heap lies,
-- and what of this stays when the heap changes.
pub mod Altering
pub mod BlackNames
pub mod Counting
pub mod Crossing
pub mod IdleFlight
pub mod Keeping
pub mod Lying
pub mod Moving
pub mod Named
pub mod Phases
pub mod Placing
pub mod Renaming
pub mod Serving
pub mod SoundAfter
pub mod Steps
pub mod Tying
pub mod Waits
pub mod Wanted
pub mod WorldRuns
