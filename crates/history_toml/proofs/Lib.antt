pub mod RowLemmas
pub mod PathLemmas
pub mod ReadLemmas
pub mod EntryLemmas
pub mod TreeLemmas
pub mod TextLemmas
