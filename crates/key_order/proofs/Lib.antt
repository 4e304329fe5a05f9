pub mod OrderLemmas
pub mod ChangeLemmas
pub mod OutcomeLemmas
pub mod StretchLemmas
