pub mod Runs
pub mod Sums
mod Rounds
mod Links
pub mod Raise
mod Peak
mod Equations
mod Certificate
pub mod Tighten
mod Narrowing
pub mod Joining
