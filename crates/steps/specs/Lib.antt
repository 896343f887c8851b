pub mod Steps
pub mod AtSites
pub mod Tightening
pub mod Printed
