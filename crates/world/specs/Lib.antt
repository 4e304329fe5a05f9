-- Events: what a call of a front takes of the events to come.
-- Rules: which events of a front may follow one another.
-- Fronts: what the calls of a front leave.
-- Growth: what only grows while a front is called.
-- Tapes: the events of a script as a front tells them, and how far they were taken.
-- Outboxes: the sends of a front in memory.
-- Worlds: a world in memory: its calls.
pub mod Events
pub mod Rules
pub mod Fronts
pub mod Growth
pub mod Tapes
pub mod Outboxes
pub mod Worlds
