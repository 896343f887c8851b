pub mod Tables
pub mod Layers
pub mod Changes
