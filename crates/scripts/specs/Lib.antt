-- Lawful: which events may follow one another.
-- Notes: numbers that are noted in room that was made before.
-- Weights: how many calls take the events of a script at most.
-- Lines: the lines of a text.
-- Writing: how an event is written as a line.
-- Standing: the connections that events leave open, as they are kept while a text is read.
-- Reading: the script that a text means, and the first line at which it means none.
pub mod Lawful
pub mod Notes
pub mod Weights
pub mod Lines
pub mod Writing
pub mod Standing
pub mod Reading
