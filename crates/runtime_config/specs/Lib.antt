-- Served: the versions that a release serves, as contracts see them.
-- Keys: the keys of a runtime configuration (kube-apiserver's --runtime-config).
-- Config: which runtime configurations a release accepts, why it refuses another, and which versions it serves.
-- Rows: entries with the keys that name their versions.
-- Standings: what is best of the versions that a key names: live, or introduced once, or at least spoken of.
-- Merges: how the standings of keys grow by an entry.
-- Serving: what the booleans that were read leave served.
-- Laws: what follows from the definitions of runtime configurations.
pub mod Served
pub mod Keys
pub mod Config
pub mod Rows
pub mod Standings
pub mod Merges
pub mod Serving
pub mod Laws
