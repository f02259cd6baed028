pub mod States
pub mod ZonesMade
