pub mod Kind
pub mod Placed
pub mod Seen
pub mod Words
