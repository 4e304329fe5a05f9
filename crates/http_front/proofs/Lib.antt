pub mod FrontLemmas
pub mod ItemLemmas
pub mod PartLemmas
pub mod PathLemmas
pub mod ReplyLemmas
pub mod RouteLemmas
pub mod TakeLemmas
pub mod WaitLemmas
