pub mod Blocks
pub mod Labels
pub mod Leaves
pub mod LittleEndian
pub mod Reading
pub mod Texts
