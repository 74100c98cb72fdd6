pub mod Unused
pub mod Starts
pub mod Message
pub mod Buffers
pub mod Checks
