pub mod KeptLemmas
pub mod GateCutLemmas
pub mod ApiOrderLemmas
pub mod ApiCutLemmas
pub mod FieldCutLemmas
pub mod CutLemmas
