-- Endings: how the process ends, and with which status.
pub mod Endings
