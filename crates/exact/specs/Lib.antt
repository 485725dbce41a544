pub mod Fraction
pub mod Value
pub mod Rounded
pub mod Multiple
pub mod Straight
pub mod Laws
pub mod Distances
