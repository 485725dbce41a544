pub mod Share
pub mod Needle
