-- Release: the texts of releases.
-- Ranges: which releases a binary may emulate, and for which it may write its store (after KEP-4330).
pub mod Release
pub mod Ranges
