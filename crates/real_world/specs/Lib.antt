-- Faults: why there is no world.
-- Listening: the connections of a listener, and what they tell.
-- Opened: how many connections were opened.
-- Worlds: what lies beside the disk of a world.
pub mod Faults
pub mod Listening
pub mod Opened
pub mod Worlds
