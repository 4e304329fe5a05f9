-- Flags: why flag texts make no view of a release.
pub mod Flags
