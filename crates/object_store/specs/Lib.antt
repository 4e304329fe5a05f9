-- Records: the records that entries leave, in key order.
-- Left: the puts that entries leave, as a map from their keys.
-- Stores: a store: what it holds, what it stands on, and the entry that a commit takes.
pub mod Records
pub mod Left
pub mod Stores
