-- Answers: answers to requests, and the replies that carry them.
-- Refusals: one list of cases, each with its condition and its answer. The first whose condition
--   holds is the answer.
-- Steps: what one request means: its reply, and the state after it.
-- Laws: what follows from the meaning of a request.
-- Heads: what is known of a request once its head was looked at.
-- Reading: what is read of the state and of the release.
-- Sound: what a change of the state keeps: objects fit the versions of their resources, and a store
--   stays within its limits.
-- Calls: a request for objects at a place, and the state that it finds, on its way through the
--   refusals.
-- Deciding: what becomes of a request.
pub mod Answers
pub mod Refusals
pub mod Steps
pub mod Laws
pub mod Heads
pub mod Reading
pub mod Sound
pub mod Calls
pub mod Deciding
