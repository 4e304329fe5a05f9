pub mod StoreLaws
mod ChangeLemmas
mod LeftLemmas
mod NextLemmas
mod CommitLemmas
mod OpenLemmas
