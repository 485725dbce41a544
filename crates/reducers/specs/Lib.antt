pub mod Reduce
pub mod Exact
