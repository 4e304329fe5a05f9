-- Steps: steps of a server one after another, of whole requests and of heads that can't be taken.
-- Texts: texts of a view that are in UTF-8.
-- Laws: what follows for the state, and for the records that are kept.
pub mod Steps
pub mod Texts
pub mod Laws
