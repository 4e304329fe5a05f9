-- Arrays: the names of the arrays in a history document.
-- Shapes: the shapes of what a release history holds.
-- Dated: a release history as contracts see it.
-- Fields: the fields of a history, as the record that contracts see.
-- Places: rules over lists of dated entries: where a rule holds, and which entry breaks it.
-- GateRules: the rules on feature gates, one entry at a time (after the Kubernetes deprecation
-- policy).
-- ApiRules: the rules on versions of resources, one entry at a time (after the Kubernetes
-- deprecation policy).
-- Cutoff: what a release knows of a history: the entries dated at or before it.
-- Pairs: which fields and versions belong together, and which spellings are theirs.
-- Rows: the rows of a version's table: a row for each field of its resource, as the version spells
-- it.
-- FieldRules: the rules on fields, one entry at a time.
-- SpellRules: the rules on spellings, one entry at a time.
-- Rules: what makes a release history accepted, and which rule a history breaks first.
-- Laws: what follows from the rules, for those who build on accepted histories.
-- AcceptedFields: the field of an accepted history, as contracts see it.
pub mod Arrays
pub mod Shapes
pub mod Dated
pub mod Fields
pub mod Places
pub mod GateRules
pub mod ApiRules
pub mod Cutoff
pub mod Pairs
pub mod Rows
pub mod FieldRules
pub mod SpellRules
pub mod Rules
pub mod Laws
pub mod AcceptedFields
