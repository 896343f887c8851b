pub mod Checks
mod Pins
mod Repinning
