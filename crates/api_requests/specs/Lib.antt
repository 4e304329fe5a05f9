-- Serving: a server over a store, as contracts see it.
-- Fields: its fields, and what its type keeps.
-- Prepared: a request whose reply is made and whose change can be stored.
-- Finishing: what a request leaves of the server, and what a stop during it may leave on the disk.
pub mod Serving
pub mod Fields
pub mod Prepared
pub mod Finishing
