pub mod WrapperMaps
pub mod TargetZones
