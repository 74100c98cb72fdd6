-- Lemmas that the proofs cite.
mod Zeros
mod Slots
