-- The store, what its words mean, and its laws, in reading order.
pub mod Store
pub mod Lists
pub mod Words
pub mod Same
pub mod Meaning
pub mod Laws
pub mod Slots
pub mod Keeping
