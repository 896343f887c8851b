pub mod Sites
pub mod Walks
