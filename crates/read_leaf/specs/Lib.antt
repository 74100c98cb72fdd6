-- The definitions that the contracts cite, and laws of them.
pub mod State
pub mod Push
pub mod Does
pub mod Takes
pub mod Meaning
pub mod Touch
pub mod Promises
pub mod Held
