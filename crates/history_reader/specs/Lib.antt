-- Names: the names of the members of a history document.
-- Tree: what stands in the tree of a document.
-- Words: the words of types and forms, paths as texts, and values that stand in a document.
-- Demands: what a member of a history document must hold.
-- Rows: the member table of a history document: for each table of it, which members it has, in
--   which order, and what each must hold.
-- Tests: the tests that a history document must pass, in their order, and the first that fails.
-- Faults: the place that a fault names, and the tests of which it is the first fault.
-- Meaning: what a history document means.
-- Laws: what the definitions of reading say together: a text has one answer.
pub mod Names
pub mod Tree
pub mod Words
pub mod Demands
pub mod Rows
pub mod TableRows
pub mod Tests
pub mod Faults
pub mod Meaning
pub mod Laws
