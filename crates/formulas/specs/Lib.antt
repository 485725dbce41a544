pub mod Words
pub mod Radians
pub mod HalfTurns
pub mod Tried
pub mod Distance
pub mod Tangent
pub mod Six
pub mod Polynomials
