-- Nothing else is held where each pair is of a row.
use Rattle.std.proofs.Common.{◌≡◌, ◌≢◌, ℕ, Bool, true, false, List, [], ◌∷◌, Option, Some, None, All, refl, sym, ◌∙◌, subst, bytes_eq}
use Rattle.std.specs.List.{AllByRecursion}
use Rattle.std.proofs.lemmas.List.Elements.{recursion_from_All, All-from_recursion}
use Rattle.std.proofs.lemmas.Slice.Eq.{bytes_eq-Decides}
use Rattle.fields.specs.Map.{value_at}
use Rattle.fields.specs.declared.map.FieldPair.{FieldPair}
use Rattle.fields.specs.declared.table.FieldRow.{FieldRow}
use Rattle.fields.proofs.MapLemmas.{value_at-here, value_at-other}
use Rattle.conversion.specs.Code.{AreNamed}

abbrev AreOthers : List FieldRow → List ℕ → Type 0
AreOthers rows id = All (λ row. row.id ≢ id) rows

some_not_none : {X : Type 0} (o : Option X) (x : X) → o ≡ Some x → o ≡ None → ⊥
some_not_none o x h k = cc

not_same : (a b : List ℕ) → bytes_eq a b ≡ false → a ≢ b
not_same a b e same = let t = (bytes_eq-Decides a b).1 same in cc

-- the first of the pairs is held, and a later one is where it isn't of the same id
held_first : (p : FieldPair) (pairs : List FieldPair) → value_at (p ∷ pairs) p.id ≢ None
held_first p pairs none = some_not_none (value_at (p ∷ pairs) p.id) p.value (value_at-here p pairs) none

held_later : (p : FieldPair) (pairs : List FieldPair) (id : List ℕ) → value_at pairs id ≢ None → value_at (p ∷ pairs) id ≢ None
held_later p pairs id held = by (bytes_eq p.id id) refl
  where
    by : (b : Bool) → bytes_eq p.id id ≡ b → value_at (p ∷ pairs) id ≢ None
    by true e none = held_first p pairs (subst (λ t. value_at (p ∷ pairs) t ≡ None) (sym ((bytes_eq-Decides p.id id).0 e)) none)
    by false e none = held (sym (value_at-other p pairs id (λ same. not_same p.id id e (sym same))) ∙ none)

not_held : (rows : List FieldRow) (id : List ℕ) (pairs : List FieldPair) → AreOthers rows id → AllByRecursion (λ p. ¬ AreOthers rows p.id) pairs → value_at pairs id ≡ None
not_held rows id [] none h = refl
not_held rows id (p ∷ pairs) none h = value_at-other p pairs id (λ same. h.0 (subst (AreOthers rows) same none)) ∙ not_held rows id pairs none h.1

pub only_named : (rows : List FieldRow) (pairs : List FieldPair) → AreNamed rows pairs → (id : List ℕ) → All (λ row. row.id ≢ id) rows → value_at pairs id ≡ None
only_named rows pairs h id none = not_held rows id pairs none (recursion_from_All (λ (p : FieldPair). ¬ AreOthers rows p.id) pairs h)

named_from : (rows : List FieldRow) (rest : List FieldPair) (Held : List ℕ → Type 0) → ((id : List ℕ) → AreOthers rows id → ¬ Held id) → ((id : List ℕ) → value_at rest id ≢ None → Held id) → AllByRecursion (λ p. ¬ AreOthers rows p.id) rest
named_from rows [] Held h within = tt
named_from rows (p ∷ rest) Held h within = (
  λ none. h p.id none (within p.id (held_first p rest)),
  named_from rows rest Held h (λ id held. within id (held_later p rest id held)),
)

pub named_only : (rows : List FieldRow) (pairs : List FieldPair) → ((id : List ℕ) → All (λ row. row.id ≢ id) rows → value_at pairs id ≡ None) → AreNamed rows pairs
named_only rows pairs h =
    All-from_recursion (λ (p : FieldPair). ¬ AreOthers rows p.id) pairs (named_from rows pairs (λ id. value_at pairs id ≢ None) (λ id none held. held (h id none)) (λ id held. held))
