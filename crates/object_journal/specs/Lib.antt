-- Payload: a record: the payload that an entry has, and the payload behind its length.
-- Frames: how a frame is seen: as the entry that its payload tells.
-- Journal: the journal, format 1: which bytes of a file mean which entries, and where the others break the grammar.
-- KeyOrder: the order of keys.
-- Parts: what the bytes of a record are parted into.
-- HeldKeys: the keys that a reader holds.
-- Readings: what a reader knows at a gate.
-- Standing: a journal that stands on a disk, and what a stop during its calls may leave.
pub mod Payload
pub mod Frames
pub mod Journal
pub mod KeyOrder
pub mod Parts
pub mod HeldKeys
pub mod Readings
pub mod Standing
