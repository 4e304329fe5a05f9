pub mod DedupLemmas
pub mod GroupLemmas
pub mod ServedLemmas
pub mod PageLemmas
pub mod ListedLemmas
pub mod StableLemmas
pub mod FloatLemmas
