pub mod Typed
pub mod Nodes
pub mod Run
pub mod Root
pub mod Path
