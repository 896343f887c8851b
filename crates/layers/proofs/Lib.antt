mod Layered
mod Reading
mod Writes
