pub mod AtRows
pub mod Measures
