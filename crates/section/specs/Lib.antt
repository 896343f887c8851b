pub mod Limits
pub mod Plan
pub mod Printed
pub mod Reading
