pub mod CallLemmas
pub mod ImageLemmas
pub mod MemLemmas
pub mod PatchLemmas
pub mod TraitLemmas
