pub mod ReadingLemmas
pub mod LawLemmas
