-- What the words mean, their laws, and how long a chain is.
pub mod Store
pub mod Words
pub mod Meeting
pub mod Laws
pub mod Steps
