-- What a pass over the rows does.
pub mod Pass
pub mod Own
pub mod Remaining
pub mod Descent
pub mod Sequence
pub mod Start
