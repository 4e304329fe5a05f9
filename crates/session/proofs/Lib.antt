pub mod AnswerLemmas
pub mod ServingLemmas
pub mod EventLemmas
pub mod LoopLemmas
pub mod NextLemmas
