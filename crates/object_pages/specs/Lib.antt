-- Documents: an object whole, a list of objects, and what answers a deletion.
-- Fitting: objects that hold what versions of their resource can show.
-- Laws: what follows from the definitions.
pub mod Documents
pub mod Fitting
pub mod Laws
