-- Once: what comes of acceptance: an entry is named by its texts.
-- Source: what the rows of tables are made of at a release.
-- Made: what is kept on the way to the rows of a version.
-- Fields: the fields of an index, as contracts see it.
-- Laws: what follows from the definition of a version's rows, and what a history that is cut later knows at a
--   release.
pub mod Once
pub mod Source
pub mod Made
pub mod Fields
pub mod Laws
