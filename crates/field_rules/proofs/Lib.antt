pub mod PassLemmas
pub mod IndexLemmas
pub mod TestLemmas
pub mod FaultLemmas
