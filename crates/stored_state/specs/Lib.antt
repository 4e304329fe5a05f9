-- Reading: which records two releases read, and why a server doesn't start from others.
-- Steps: one record as a release reads it, and what the records so far are read as.
-- Both: records that stand for a state by two releases, and that go on being what is kept.
-- Laws: what follows from the definitions.
pub mod Reading
pub mod Steps
pub mod Both
pub mod Laws
