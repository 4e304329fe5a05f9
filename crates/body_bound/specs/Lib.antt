-- Texts: how many bytes the texts of a JSON tree have.
-- Held: how many bytes the texts have that a map of fields holds, and what is read of a tree.
-- Room: how long the compact text of a tree is at most, by its texts and names.
-- Shown: how long the text is that shows fields which the body of a request was read as.
-- Entries: how long an entry of the journal is that puts a stored body.
-- Puts: how long an entry of the journal is that stores what a request gives an object.
pub mod Texts
pub mod Held
pub mod Room
pub mod Shown
pub mod Entries
pub mod Puts
