-- What a search learns, what it answers and asks, parts of the pool, and how many links it follows.
pub mod Hash
pub mod Front
pub mod Compared
pub mod Search
pub mod Parts
pub mod Walked
