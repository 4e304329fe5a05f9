pub mod SpellLemmas
pub mod AnswerLemmas
