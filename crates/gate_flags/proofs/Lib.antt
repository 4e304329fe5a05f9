pub mod AnswerLemmas
pub mod LookupLemmas
pub mod PassLemmas
pub mod RowLemmas
pub mod SearchLemmas
pub mod CutLemmas
pub mod EitherLemmas
