-- Releases: the releases that a server is for, and what its texts make of them.
-- Faults: which fault stands for one of the flag texts or of the store.
-- Ends: how serving a history ends, and what it leaves.
-- Refusals: why texts make no server of a history.
-- Laws: what follows from the definitions.
pub mod Releases
pub mod Faults
pub mod Ends
pub mod Refusals
pub mod Laws
