pub mod Desk
pub mod Cases
