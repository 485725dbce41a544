pub mod Laws
pub mod Polynomial
