pub mod Clears
pub mod Margins
mod Counts
mod Passing
mod Writing
