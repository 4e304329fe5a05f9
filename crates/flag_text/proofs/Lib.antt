pub mod PieceLemmas
pub mod LastLemmas
pub mod PassLemmas
pub mod TwoPassLemmas
