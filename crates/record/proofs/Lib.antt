pub mod Cuts
pub mod Replay
pub mod Tallies
pub mod Pages
pub mod Outcomes
