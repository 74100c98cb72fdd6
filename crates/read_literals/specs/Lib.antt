-- What the words mean, and their laws.
pub mod Words
pub mod Laws
