-- Opened: what an opening of the store leaves, and which stores are refused.
-- Ends: how a session over a store ends, and what it leaves.
-- Steps: what each step of a session over a store gives.
pub mod Opened
pub mod Ends
pub mod Steps
