pub mod Events
pub mod Doing
pub mod Law
