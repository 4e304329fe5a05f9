-- Storage: the version in which objects of a resource are stored.
-- Bodies: what is stored of an object, and what a stored body is read as.
-- Standing: records, and the state that they stand for; and what an earlier release knows of a state.
-- Kept: the records that are kept as a state changes.
-- Laws: what follows from the definitions.
pub mod Storage
pub mod Bodies
pub mod Standing
pub mod Kept
pub mod Laws
