-- Digits: texts that begin with digits.
-- Version: the words of API versions, as `v1`, `v2beta1` and `v1alpha3` (Kubernetes API
-- versioning).
-- Stability: the order of versions, the most stable first (Kubernetes version priority).
-- Entry: what a list of dated changes says of a version of a resource at a release.
-- Tables: what the tables of a release say of a version of a resource.
-- Warnings: a warning as contracts see it.
-- Same: two lists of changes that say the same of each version.
-- Laws: what a history that is cut at a release knows at it and before.
-- Names: the texts by which a version is named (Kubernetes' `apiVersion`).
pub mod Digits
pub mod Version
pub mod Stability
pub mod Entry
pub mod Tables
pub mod Warnings
pub mod Same
pub mod Laws
pub mod Names
