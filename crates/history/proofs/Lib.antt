pub mod Checks
pub mod Calls
pub mod Steps
pub mod Points
