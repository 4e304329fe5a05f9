-- Lists: the lists of a history in which the rules on fields look.
-- Keys: the names by which entries of gates and APIs are listed.
-- IndexFields: the fields of an index of entries, as contracts see it.
-- Answers: what an index answers of a field, a version and a spelling.
pub mod Lists
pub mod Keys
pub mod IndexFields
pub mod Answers
