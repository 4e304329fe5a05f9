-- Stages: the words by which a history document names the stages of feature gates.
-- Gates: what a list of dated changes says of a feature gate.
-- Same: two lists of changes that say the same of each gate.
-- Laws: what follows from the definitions of gates.
pub mod Stages
pub mod Gates
pub mod Same
pub mod Laws
