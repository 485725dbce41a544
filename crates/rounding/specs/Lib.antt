pub mod Round
pub mod Bits
pub mod Narrowing
