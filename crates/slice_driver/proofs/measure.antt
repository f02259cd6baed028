-- The number that each unit lowers, and that it is below 2^64.
pub mod FewUnits
pub mod Fewer
pub mod FewerEntries
pub mod FewerEnded
pub mod FewerTaken
pub mod PresentPlaces
pub mod CountedCells
pub mod CountedWrappers
pub mod CountedZones
pub mod CountedEntries
pub mod EntriesToCome
pub mod CommandsToCome
pub mod MarkingToCome
pub mod StatesToCome
pub mod BeginsToCome
pub mod BornToCome
pub mod GrayPiles
