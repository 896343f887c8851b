pub mod Sides
pub mod Stencils
pub mod Keeping
pub mod Laying
