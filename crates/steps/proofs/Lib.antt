pub mod Sizes
mod Blending
mod Turning
mod Ends
pub mod Clearing
