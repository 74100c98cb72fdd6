pub mod Descent
pub mod Opening
pub mod Parent
pub mod Walk
