-- What the contracts cite.
pub mod Answers
pub mod Kind
pub mod Held
pub mod Passes
