pub mod Raising
pub mod Exact
pub mod Certifying
pub mod Tightening
