-- Listing: entries listed by names of three parts.
-- Keys: the names at which fields and spellings are listed.
pub mod Listing
pub mod Keys
