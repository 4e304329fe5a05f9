-- Runs: a script that a machine answers from an empty store, and the numbers of it.
-- Laws: that the numbers are one.
pub mod Runs
pub mod Laws
