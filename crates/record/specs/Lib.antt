pub mod Refusals
pub mod Fields
pub mod Record
pub mod Modules
pub mod Reached
pub mod Page
pub mod Outcome
