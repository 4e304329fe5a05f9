-- Known: what the tables of a release say of a version of a resource, as a view holds it.
-- Served: the served versions among those that a view holds.
-- Gates: the gates that a view may hold.
-- Views: a view of a release as contracts see it, and what is looked up in it.
-- Spelling: what the tables of a view keep of fields.
-- Kept: what the type of a view keeps, whatever history the view was made of.
-- Fields: the fields of a view, as contracts see it.
-- Laws: what the tables of a release say of its view.
-- Order: the order of places is total.
-- Parts: parts of the making of a view.
-- Later: two views of one history, of releases that aren't far apart.
-- Same: two histories that say the same at a release.
pub mod Known
pub mod Served
pub mod Gates
pub mod Views
pub mod Spelling
pub mod Kept
pub mod Fields
pub mod Laws
pub mod Order
pub mod Parts
pub mod Later
pub mod Same
