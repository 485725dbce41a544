pub mod Sums
pub mod Books
pub mod Near
pub mod Apart
pub mod Replies
