pub mod Refusals
pub mod Rewrite
pub mod Rows
pub mod Ledger
pub mod Book
pub mod Sheets
pub mod Runs
pub mod Replies
