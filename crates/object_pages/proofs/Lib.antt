pub mod FittingLemmas
pub mod PageLemmas
