pub mod ReadLemmas
pub mod BodyLemmas
pub mod StorageLemmas
pub mod StandingLemmas
pub mod KnownLemmas
pub mod BackLemmas
pub mod KeptLemmas
pub mod StepLemmas
