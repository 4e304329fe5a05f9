-- Trees: what stands at a path of a JSON tree.
-- Causes: why JSON is no value of a field.
-- Writing: how values of fields are written as JSON, in each form.
-- Reading: what a JSON tree reads as, and why one can't be read.
-- Showing: the object that shows what a map holds: the least one in which each held field stands at its path.
-- Paths: paths and faults of reading, as texts.
-- Whole: an object as JSON in a version of its resource: `apiVersion` and `kind` name the version, `metadata` is its
--   own, and fields are shown among its other members.
-- Laws: what follows from the definitions of reading and showing.
-- Code: what functions of this crate give on their way.
pub mod Trees
pub mod Causes
pub mod Writing
pub mod Reading
pub mod Showing
pub mod Paths
pub mod Whole
pub mod Laws
pub mod Code
