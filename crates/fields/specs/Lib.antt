-- Order: the byte order of texts.
-- Map: a finite map from ids to values, as the list of its pairs in rising byte order of id.
-- Table: the rows of a table: how a version of a resource spells its fields, and which rows are
-- lawful.
-- Places: where the pair of an id stands among pairs in order, or belongs.
-- Fits: maps that fit rows, and rows beside other rows: of the same fields, or fewer of them.
pub mod Order
pub mod Map
pub mod Table
pub mod Places
pub mod Fits
