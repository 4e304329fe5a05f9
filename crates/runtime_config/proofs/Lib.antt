pub mod AnswerLemmas
pub mod NameLemmas
pub mod KeyLemmas
pub mod StandingLemmas
pub mod RefusalLemmas
pub mod ServedLemmas
pub mod CutLemmas
pub mod EitherLemmas
