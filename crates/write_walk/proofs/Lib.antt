pub mod Loops
pub mod Several
pub mod ByKind
pub mod Owns
pub mod Descents
pub mod Sequences
pub mod Starts
