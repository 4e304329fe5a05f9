-- Order: lists of anything in the order of their keys, where a key stands in them, and what a change of one key leaves.
-- Stretches: the keys of one resource, and those of one namespace of it.
pub mod Order
pub mod Stretches
