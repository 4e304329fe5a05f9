-- What stays where a history is folded.
use Rattle.std.proofs.Common.{ℕ, ◌↔◌, not, List, Contains}
use Rattle.basis.proofs.FilterLemmas.{Contains-filter, Contains-from_filter, passes_from_filter}
use Rattle.fields.specs.declared.field.Spell.{Spell}
use Rattle.gate_spec.specs.declared.entry.GateEntry.{GateEntry}
use Rattle.lifecycle.specs.Entry.{subject}
use Rattle.lifecycle.specs.declared.entry.ApiEntry.{ApiEntry}
use Rattle.schemas.specs.ApiRules.{IsForgotten}
use Rattle.schemas.specs.Dated.{Dated}
use Rattle.history_fold.specs.Folded.{IsPast, is_past, is_forgotten, version_of, gates_from, apis_from, spells_from, floor_in}
use Rattle.history_fold.specs.Laws.{KeepsTheRest}
use Rattle.history_fold.proofs.ApiFoldLemmas as on_apis
use Rattle.history_fold.proofs.GateFoldLemmas as on_gates

pub gates_left : (gates : List GateEntry) (floor : ℕ) (x : GateEntry) → Contains (gates_from gates floor) x ↔ (Contains gates x × ¬ IsPast gates floor x)
gates_left gates floor x = (
  λ h. (Contains-from_filter (λ y. not (is_past gates floor y)) gates x h, on_gates.stays_said gates floor x (passes_from_filter (λ y. not (is_past gates floor y)) gates x h)),
  λ h. Contains-filter (λ y. not (is_past gates floor y)) gates x h.0 (on_gates.stays_tested gates floor x h.1),
)

pub apis_left : (apis : List ApiEntry) (floor : ℕ) (x : ApiEntry) → Contains (apis_from apis floor) x ↔ (Contains apis x × ¬ IsForgotten apis (subject x) floor)
apis_left apis floor x = (
  λ h. (Contains-from_filter (λ y. not (is_forgotten apis floor (subject y))) apis x h, on_apis.stays_said apis floor (subject x) (passes_from_filter (λ y. not (is_forgotten apis floor (subject y))) apis x h)),
  λ h. Contains-filter (λ y. not (is_forgotten apis floor (subject y))) apis x h.0 (on_apis.stays_tested apis floor (subject x) h.1),
)

pub spells_left : (apis : List ApiEntry) (spells : List Spell) (floor : ℕ) (s : Spell) → Contains (spells_from apis spells floor) s ↔ (Contains spells s × ¬ IsForgotten apis (version_of s) floor)
spells_left apis spells floor s = (
  λ h. (Contains-from_filter (λ t. not (is_forgotten apis floor (version_of t))) spells s h, on_apis.stays_said apis floor (version_of s) (passes_from_filter (λ t. not (is_forgotten apis floor (version_of t))) spells s h)),
  λ h. Contains-filter (λ t. not (is_forgotten apis floor (version_of t))) spells s h.0 (on_apis.stays_tested apis floor (version_of s) h.1),
)

pub keeps_the_rest : (h : Dated) → KeepsTheRest h
keeps_the_rest h = record {
  gates = gates_left h.gates (floor_in h);
  apis = apis_left h.apis (floor_in h);
  spells = spells_left h.apis h.spells (floor_in h);
}
