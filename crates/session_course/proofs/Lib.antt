pub mod SendLemmas
pub mod ServerLemmas
pub mod CourseLemmas
