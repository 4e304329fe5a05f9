-- Dropping: what is kept of a new object's fields where some are off (the rule on disabled fields in Kubernetes'
--   document on API changes).
pub mod Dropping
