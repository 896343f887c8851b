pub mod AtRows
pub mod Certifying
pub mod Counting
pub mod Proposals
