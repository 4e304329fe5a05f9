pub mod TargetLemmas
pub mod TextLemmas
pub mod QueryLemmas
pub mod WarningLemmas
pub mod PlainLemmas
