mod Toward
mod Equations
mod Keeping
mod Nearness
mod Places
mod Rows
mod Columns
