pub mod Law
pub mod Replies
