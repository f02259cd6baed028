-- Looks at wrappers, grouping steps, and the unit that forms the groups.
pub mod Forms
pub mod Looks
