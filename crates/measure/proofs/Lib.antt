mod Rows
mod Residuals
mod Margins
mod Spreads
