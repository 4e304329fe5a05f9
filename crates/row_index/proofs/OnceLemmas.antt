-- Entries of an accepted history are named by their texts.
use Rattle.std.proofs.Common.{ℕ, ◌≡◌, ◌<◌, ◌≤◌, List, Some, length, sym, subst, ◌∙◌, arith, inl, inr, Contains}
use Rattle.std.specs.Prelude.{slice_get, All}
use Rattle.std.proofs.lemmas.Bool.{cases_order}
use Rattle.std.proofs.lemmas.List.{get_or-take, length-take-le}
use Rattle.std.proofs.lemmas.Option.{get_or_from_slice_get}
use Rattle.basis.proofs.FilterLemmas.{Contains-from_filter}
use Rattle.fields.specs.declared.field.Field.{Field}
use Rattle.fields.specs.declared.field.Spell.{Spell}
use Rattle.schemas.specs.Cutoff.{fields_by, spells_by}
use Rattle.schemas.proofs.AcceptedLemmas as hr
use Rattle.schemas.specs.Dated.{Dated}
use Rattle.schemas.specs.FieldRules.{AreOneField}
use Rattle.schemas.specs.Pairs.{AreOfOnePair}
use Rattle.schemas.specs.Places.{Each}
use Rattle.schemas.specs.Rules.{IsAccepted}
use Rattle.schemas.proofs.LawLemmas.{any_stands}
use Rattle.schemas.proofs.PlaceLemmas.{some_injective}
use Rattle.row_index.specs.Once.{AreFieldsOnce, AreSpellsOnce}

stands : {E : Type 0} (xs : List E) (x : E) → (h : Contains xs x) → slice_get xs h.0 ≡ Some x
stands {E} xs x h = any_stands (λ (y : E). Unit {0}) xs (h.0, x, h.1, h.2, tt)

not_earlier : {E : Type 0} (R : E → E → Type 0) (xs : List E) (i j : ℕ) (x y : E) → Each (λ earlier z. All (λ w. ¬ R z w) earlier) xs → i < j → j < length xs → slice_get xs i ≡ Some x → slice_get xs j ≡ Some y → ¬ R y x
not_earlier R xs i j x y each less within at_i at_j =
    let bound : j ≤ length xs = omega arith in
    subst (λ w. ¬ R y w) (get_or-take j xs i x less ∙ get_or_from_slice_get xs i x x at_i) (each j y at_j i x (rw (length-take-le j xs bound) less))

-- where each entry is another than those before it, two that are the same are one
one_entry : {E : Type 0} (R : E → E → Type 0) (xs : List E) → Each (λ earlier x. All (λ y. ¬ R x y) earlier) xs → (x y : E) → Contains xs x → Contains xs y → R x y → R y x → x ≡ y
one_entry {E} R xs each x y at_x at_y one two =
    let low : at_x.0 < length xs = at_x.1 in
    let high : at_y.0 < length xs = at_y.1 in
    elim (cases_order at_x.0 at_y.0) [
      | inl same ↦ some_injective x y (sym (stands xs x at_x) ∙ subst (λ (k : ℕ). slice_get xs k ≡ Some y) (sym same) (stands xs y at_y))
      | inr other ↦ elim other [
        | inl less ↦ absurd (not_earlier R xs at_x.0 at_y.0 x y each less high (stands xs x at_x) (stands xs y at_y) two)
        | inr more ↦ absurd (not_earlier R xs at_y.0 at_x.0 y x each more low (stands xs y at_y) (stands xs x at_x) one)
      ]
    ]

pub fields_once : (h : Dated) (e : ℕ) → IsAccepted h → AreFieldsOnce (fields_by h.fields e)
fields_once h e lawful = λ (f g : Field) in_f in_g (same : AreOneField f g). one_entry AreOneField h.fields (λ k x at. ((hr.fields_belong h lawful) k x at).once) f g (Contains-from_filter _ h.fields f in_f) (Contains-from_filter _ h.fields g in_g) same
    (record { group = sym same.group; resource = sym same.resource; id = sym same.id })

pub spells_once : (h : Dated) (e : ℕ) → IsAccepted h → AreSpellsOnce (spells_by h.spells e)
spells_once h e lawful = λ (s t : Spell) in_s in_t (same : AreOfOnePair s t). one_entry AreOfOnePair h.spells (λ k x at. ((hr.spelled_once h lawful) k x at).single) s t (Contains-from_filter _ h.spells s in_s) (Contains-from_filter _ h.spells t in_t) same
    (record { group = sym same.0.group; version = sym same.0.version; resource = sym same.0.resource }, sym same.1)
