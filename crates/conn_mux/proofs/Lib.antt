pub mod BufferLemmas
pub mod FollowLemmas
pub mod OrderLemmas
pub mod StreamLemmas
