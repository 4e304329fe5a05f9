-- Objects: objects by their keys, in key order.
-- State: what a server keeps: objects, the revision of their store, and how many records that has.
-- Room: objects in a list that is made at the first room.
pub mod Objects
pub mod State
pub mod Room
