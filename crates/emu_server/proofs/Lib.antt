pub mod HistoryLemmas
pub mod OneLemmas
pub mod TopLemmas
pub mod ServingLemmas
pub mod CompleteLemmas
