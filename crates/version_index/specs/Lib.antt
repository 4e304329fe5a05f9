-- Events: the kinds of changes that are looked up, each by its test.
-- Fields: the fields of an index, as contracts see it: the tables of the release.
pub mod Events
pub mod Fields
