-- Draws: numbers that look random, drawn one after another from a state.
-- Values: the fields that an object is given by draws.
-- Requests: the requests that draws choose, and their bytes.
-- Parts: lists in slices, and bytes in pieces of a script.
-- Groups: the events of a script in which requests come in parts.
-- Workload: the script that a seed makes for a view.
-- Whole: what each connection brings.
pub mod Draws
pub mod Values
pub mod Requests
pub mod Parts
pub mod Groups
pub mod Workload
pub mod Whole
