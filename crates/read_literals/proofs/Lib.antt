-- Lemmas that the proofs cite.
mod Literals
