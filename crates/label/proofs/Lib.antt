pub mod Run
pub mod Signed
