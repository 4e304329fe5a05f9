-- A second fold changes nothing.
use Rattle.std.proofs.Common.{ℕ, ◌≡◌, not, List, [], ◌∷◌, Bool, true, Some, filter, refl, sym, ap, ◌∙◌, arith, inl, inr}
use Rattle.std.proofs.lemmas.Bool.{cases_Bool}
use Rattle.basis.proofs.FilterLemmas.{Any-from_filter}
use Rattle.fields.specs.declared.field.Spell.{Spell}
use Rattle.gate_spec.specs.declared.entry.GateEntry.{GateEntry}
use Rattle.lifecycle.specs.Entry.{GroupVersionResource, subject}
use Rattle.lifecycle.specs.declared.entry.ApiEntry.{ApiEntry}
use Rattle.minor_version.specs.Ranges.{floor_of}
use Rattle.schemas.specs.ApiRules.{IsForgetting}
use Rattle.schemas.specs.Dated.{Dated}
use Rattle.schemas.specs.Rules.{first_of, last_of}
use Rattle.history_cut.proofs.KeptLemmas.{kept_head, left_head}
use Rattle.history_fold.specs.Folded.{IsLaterSpec, is_past, is_forgotten, version_of, gates_from, apis_from, spells_from, folded_at, floor_in, folded}
use Rattle.history_fold.specs.Laws.{IsFoldedOnce}
use Rattle.history_fold.proofs.ApiFoldLemmas as on_apis
use Rattle.history_fold.proofs.GateFoldLemmas as on_gates

-- what passes one test and so another is all that is left
filter_again : {E : Type 0} (r p : E → Bool) (xs : List E) → ((x : E) → p x ≡ true → r x ≡ true) → filter r (filter p xs) ≡ filter p xs
filter_again r p [] wider = refl
filter_again {E} r p (x ∷ xs) wider = elim (cases_Bool (p x)) [
  | inl passes ↦
      ap (filter r) (kept_head p x xs passes) ∙ kept_head r x (filter p xs) (wider x passes) ∙ ap (λ (ys : List E). x ∷ ys) (filter_again r p xs wider)
      ∙ sym (kept_head p x xs passes)
  | inr fails ↦ ap (filter r) (left_head p x xs fails) ∙ filter_again r p xs wider ∙ sym (left_head p x xs fails)
]

gates_again : (gates : List GateEntry) (floor : ℕ) → gates_from (gates_from gates floor) floor ≡ gates_from gates floor
gates_again gates floor =
    filter_again (λ x. not (is_past (gates_from gates floor) floor x)) (λ x. not (is_past gates floor x)) gates
    (λ (x : GateEntry) (stays : not (is_past gates floor x) ≡ true). on_gates.stays_tested (gates_from gates floor) floor x
    (λ past. on_gates.stays_said gates floor x stays (past.0, Any-from_filter (IsLaterSpec floor x) (λ y. not (is_past gates floor y)) gates past.1)))

module _ (apis : List ApiEntry) (floor : ℕ) where
  stays_again : (name : GroupVersionResource) → not (is_forgotten apis floor name) ≡ true → not (is_forgotten (apis_from apis floor) floor name) ≡ true
  stays_again name stays = on_apis.stays_tested (apis_from apis floor) floor name (λ gone. on_apis.stays_said apis floor name stays (on_apis.change_there apis floor IsForgetting name floor gone))

  apis_again : apis_from (apis_from apis floor) floor ≡ apis_from apis floor
  apis_again = filter_again (λ x. not (is_forgotten (apis_from apis floor) floor (subject x))) (λ x. not (is_forgotten apis floor (subject x))) apis (λ (x : ApiEntry) (stays : not (is_forgotten apis floor (subject x)) ≡ true). stays_again (subject x) stays)

  spells_again : (spells : List Spell) → spells_from (apis_from apis floor) (spells_from apis spells floor) floor ≡ spells_from apis spells floor
  spells_again spells = filter_again (λ s. not (is_forgotten (apis_from apis floor) floor (version_of s))) (λ s. not (is_forgotten apis floor (version_of s))) spells (λ (s : Spell) (stays : not (is_forgotten apis floor (version_of s)) ≡ true). stays_again (version_of s) stays)

floor_again : (first last : ℕ) → floor_of (floor_of first last) last ≡ floor_of first last
floor_again first last = omega arith

at_floor_again : (h : Dated) (floor : ℕ) → folded_at (folded_at h floor) floor ≡ folded_at h floor
at_floor_again h floor =
    let gates = gates_again h.gates floor in
    let apis = apis_again h.apis floor in
    let spells = spells_again h.apis floor h.spells in
    λ i. record { first = Some floor; last = h.last; gates = gates i; apis = apis i; fields = h.fields; spells = spells i }

pub folded_once : (h : Dated) → IsFoldedOnce h
folded_once h = ap (folded_at (folded h)) (floor_again (first_of h) (last_of h)) ∙ at_floor_again h (floor_in h)
