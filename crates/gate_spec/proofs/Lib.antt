pub mod GateLemmas
pub mod CutLemmas
pub mod ThereLemmas
