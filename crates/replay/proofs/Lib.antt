mod Leading
mod Leaving
mod Making
mod Replaying
