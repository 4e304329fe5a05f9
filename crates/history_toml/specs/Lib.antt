-- Tables: how a history is written: the members of each entry's table, in order, and the tree of its
-- document.
-- Rows: the members of a table, as the program has them.
-- Layout: the text of a history's document: a line for each entry.
-- Texts: what a text of a history says to its reader.
pub mod Tables
pub mod Rows
pub mod Layout
pub mod Texts
