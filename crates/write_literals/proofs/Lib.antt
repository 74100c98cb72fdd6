-- Lemmas that the proofs cite.
mod Lanes
mod Places
mod Chains
mod Linking
mod Meeting
mod Over
