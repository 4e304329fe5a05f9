pub mod GivenLemmas
pub mod TestLemmas
pub mod RequestLemmas
