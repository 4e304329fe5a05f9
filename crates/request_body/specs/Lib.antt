-- Places: where a request reads or writes objects, and which object it is about.
-- Members: the members of a body that say which object a request is about, and which one it is meant for.
-- Writes: the fields that a body gives, for which object it is meant, and what it lacks.
-- Laws: what follows from the definitions.
pub mod Places
pub mod Members
pub mod Writes
pub mod Laws
