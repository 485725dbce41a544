pub mod Bools
pub mod Sheets
pub mod Orders
pub mod Sums
pub mod Runs
