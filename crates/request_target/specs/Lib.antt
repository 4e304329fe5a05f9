-- Resources: versions of resources as they are served, with their tables.
-- Once: a resource's table is its own in one way at most, as the type that keeps this asks.
-- Targets: what a request asks for, of what the release serves.
-- Told: what holds of what a path asks for.
-- Methods: the methods that may be used on what a request asks for.
-- Queries: queries that aren't supported.
-- Warnings: what a client is told that uses a deprecated version.
-- Plain: warnings without line breaks.
-- Laws: what follows from what a path asks for.
pub mod Resources
pub mod Once
pub mod Targets
pub mod Told
pub mod Methods
pub mod Queries
pub mod Warnings
pub mod Plain
pub mod Laws
