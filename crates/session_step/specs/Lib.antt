-- Taken: a call of a session on its server and its front.
-- Carried: what carrying an item out leaves, before its reply is sent.
pub mod Taken
pub mod Carried
