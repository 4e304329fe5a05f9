pub mod ElementLemmas
pub mod FilterLemmas
pub mod FirstLemmas
pub mod NameLemmas
pub mod OrderLemmas
