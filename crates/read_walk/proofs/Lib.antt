pub mod Opens
pub mod Fronts
pub mod Steps
pub mod Parents
pub mod Loops
pub mod Several
pub mod Descents
