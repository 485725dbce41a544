pub mod Own
pub mod OwnLemmas
