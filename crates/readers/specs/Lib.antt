pub mod Meaning
pub mod Editions
pub mod EditionsLemmas
pub mod Mounts
pub mod Quarters
