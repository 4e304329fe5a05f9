pub mod DemandLemmas
pub mod TestLemmas
pub mod TableLemmas
pub mod EntryLemmas
pub mod LawLemmas
pub mod ShapeLemmas
pub mod AnswerLemmas
