pub mod KeyLaws
pub mod EntryLaws
mod Fields
mod Readings
mod Appends
mod Refusals
mod SomeReadings
mod PartLemmas
mod HeldLemmas
mod RuleLemmas
mod ReaderLemmas
pub mod StopLemmas
mod AppendLemmas
mod MendLemmas
mod OpenLemmas
