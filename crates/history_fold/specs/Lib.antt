-- Folded: a history without what no release from its floor on needs.
-- ByName: what is past by the floor, as maps by names.
-- Laws: what follows from the definition of a fold.
pub mod Folded
pub mod ByName
pub mod Laws
