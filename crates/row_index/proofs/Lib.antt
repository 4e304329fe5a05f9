pub mod OnceLemmas
pub mod MadeLemmas
pub mod RowLemmas
pub mod CutLemmas
