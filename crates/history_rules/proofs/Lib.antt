pub mod LinkLemmas
pub mod DateLemmas
pub mod FollowerLemmas
pub mod KindLemmas
pub mod FaultLemmas
