-- CarryLemmas: what carrying out a request leaves.
-- AnswerLemmas: the course of an answer.
pub mod CarryLemmas
pub mod AnswerLemmas
