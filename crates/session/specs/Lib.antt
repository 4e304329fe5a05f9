-- Calls: what each call of a session needs, and what it leaves of its server and its front.
-- Comings: what items, pieces and events come to, by the answers of the calls.
-- Amid: where the loops of a session stand.
pub mod Calls
pub mod Comings
pub mod Amid
