-- DrawLemmas: what is drawn is below the limit.
-- FieldLemmas: the fields that rows are given, and one field more.
-- TableLemmas: the table of a served version.
-- EventLemmas: events of open connections, one more, and lists in slices.
-- BodyLemmas: bodies have no floats.
-- OneLemmas: requests are drawn one after another, and a seed makes one script.
-- WholeLemmas: what each connection brings.
pub mod DrawLemmas
pub mod FieldLemmas
pub mod TableLemmas
pub mod EventLemmas
pub mod OneLemmas
pub mod BodyLemmas
pub mod WholeLemmas
