pub mod Reading
pub mod Linking
pub mod Apart
pub mod Noting
pub mod Headed
