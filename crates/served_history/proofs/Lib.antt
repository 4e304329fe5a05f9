pub mod AlikeLemmas
pub mod ServerLemmas
pub mod EndLemmas
