-- RunLemmas: a run, from what a server over a store leaves.
-- SideLemmas: what a cut history and a folded one emulate.
-- TextsLemmas: the texts choose one server, or have one fault.
-- OneLemmas: a run comes to one count.
pub mod RunLemmas
pub mod SideLemmas
pub mod TextsLemmas
pub mod OneLemmas
