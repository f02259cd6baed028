-- A collection is given up: what is stopped turns black, and what that reaches.
pub mod Blackened
pub mod Followed
pub mod GivingUp
pub mod ResetSteps
pub mod StopSteps
pub mod Stopped
