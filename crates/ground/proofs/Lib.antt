pub mod Plans
mod Radius
