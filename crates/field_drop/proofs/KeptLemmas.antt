-- What is kept of a map, one row after another.
use Rattle.std.proofs.Common.{◌≡◌, ◌≢◌, ◌↔◌, ◌⊎◌, inl, inr, ℕ, ◌<◌, Bool, true, false, List, [], ◌∷◌, ◌++◌, Some, None, refl, sym, ◌∙◌, subst, arith}
use Rattle.std.specs.Prelude.{Option, Any, IsSome}
use Rattle.std.proofs.lemmas.Bool.{cases_Bool}
use Rattle.std.proofs.lemmas.Slice.Eq.{bytes_eq-Decides}
use Rattle.std.specs.Str.{bytes_eq}
use Rattle.basis.proofs.ElementLemmas.{Any-push_left, Any-push, Any-push_cases}
use Rattle.fields.specs.Map.{IsMap, value_at, IsChangedAt}
use Rattle.fields.specs.declared.map.FieldPair.{FieldPair}
use Rattle.fields.specs.declared.table.FieldRow.{FieldRow}
use Rattle.fields.specs.declared.value.FieldValue.{FieldValue}
use Rattle.field_drop.specs.Dropping.{IsOff, IsStored, AreKept}

abbrev IsRowOff : List ℕ → FieldRow → Type 0
IsRowOff id row = (row.id ≡ id) × (row.on ≡ false)

abbrev MayStay : List FieldRow → Option (List FieldPair) → List ℕ → Type 0
MayStay rows old id = ¬ IsOff rows id ⊎ IsStored old id

same_text : (a b : List ℕ) → (a ≡ b) ⊎ (a ≢ b)
same_text a b = elim (cases_Bool (bytes_eq a b)) [
  | inl same ↦ inl ((bytes_eq-Decides a b).0 same)
  | inr differ ↦ inr (λ e. let same : bytes_eq a b ≡ true = (bytes_eq-Decides a b).1 e in let both : true ≡ false = sym same ∙ differ in cc)
]

-- without rows all is kept
pub all_kept : (old : Option (List FieldPair)) (new : List FieldPair) → IsMap new → AreKept [] old new new
all_kept old new map = record {
  map = map;
  exact = λ id value. (λ is. (is, inl (λ off. let below : off.0 < 0 = off.2 in absurd (omega arith))), λ h. h.0);
}

off_before : (rows : List FieldRow) (row : FieldRow) (id : List ℕ) → (IsRowOff id row → ⊥) → IsOff (rows ++ row ∷ []) id → IsOff rows id
off_before rows row id not off = elim (Any-push_cases (λ r. (r.id ≡ id) × (r.on ≡ false)) rows row off) [ inl before ↦ before | inr here ↦ absurd (not here) ]

-- a row behind others keeps no more
stays_before : (rows : List FieldRow) (row : FieldRow) (old : Option (List FieldPair)) (id : List ℕ) → MayStay (rows ++ row ∷ []) old id → MayStay rows old id
stays_before rows row old id (inl on) = inl (λ off. on (Any-push_left (λ r. (r.id ≡ id) × (r.on ≡ false)) rows row off))
stays_before rows row old id (inr stored) = inr stored

-- and no less of fields of which it isn't an idle row
stays_after : (rows : List FieldRow) (row : FieldRow) (old : Option (List FieldPair)) (id : List ℕ) → (IsRowOff id row → ⊥) → MayStay rows old id → MayStay (rows ++ row ∷ []) old id
stays_after rows row old id not (inl on) = inl (λ off. on (off_before rows row id not off))
stays_after rows row old id not (inr stored) = inr stored

-- or which the stored object holds
stays_stored : (rows : List FieldRow) (row : FieldRow) (old : Option (List FieldPair)) (id : List ℕ) → IsStored old row.id → MayStay rows old id → MayStay (rows ++ row ∷ []) old id
stays_stored rows row old id stored h = elim (same_text row.id id) [
  | inl same ↦ inr (subst (λ t. IsStored old t) same stored)
  | inr other ↦ stays_after rows row old id (λ here. other here.0) h
]

-- one more row that is on
pub kept_on : (rows : List FieldRow) (row : FieldRow) (old : Option (List FieldPair)) (new kept : List FieldPair) → row.on ≡ true → AreKept rows old new kept → AreKept (rows ++ row ∷ []) old new kept
kept_on rows row old new kept on h = record {
  map = h.map;
  exact = λ id value. (
    λ is. let was = (h.exact id value).0 is in (was.0, stays_after rows row old id (λ off. let both : true ≡ false = sym on ∙ off.1 in cc) was.1),
    λ is. (h.exact id value).1 (is.0, stays_before rows row old id is.1),
  );
}

-- one more row whose field the stored object holds
pub kept_stored : (rows : List FieldRow) (row : FieldRow) (old : Option (List FieldPair)) (new kept : List FieldPair) → IsStored old row.id → AreKept rows old new kept → AreKept (rows ++ row ∷ []) old new kept
kept_stored rows row old new kept stored h = record {
  map = h.map;
  exact = λ id value. (
    λ is. let was = (h.exact id value).0 is in (was.0, stays_stored rows row old id stored was.1),
    λ is. (h.exact id value).1 (is.0, stays_before rows row old id is.1),
  );
}

none_some : {V A : Type 0} (found : Option V) (v : V) → found ≡ None → found ≡ Some v → A
none_some found v none some = let both : None ≡ Some v = sym none ∙ some in absurd cc

-- one more row that is off, whose field is removed
pub kept_dropped : (rows : List FieldRow) (row : FieldRow) (old : Option (List FieldPair)) (new kept less : List FieldPair) → row.on ≡ false → (IsStored old row.id → ⊥) → IsMap less → IsChangedAt row.id None kept less
    → AreKept rows old new kept → AreKept (rows ++ row ∷ []) old new less
kept_dropped rows row old new kept less off unstored map changed h = record {
  map = map;
  exact = λ id value. elim (same_text row.id id) [
    | inl same ↦ (
      λ is. none_some (value_at less id) value (subst (λ t. value_at less t ≡ None) same changed.here) is,
      λ is. absurd (elim is.1 [
        | inl on ↦ on (Any-push (λ r. (r.id ≡ id) × (r.on ≡ false)) rows row (same, off))
        | inr stored ↦ unstored (subst (λ t. IsStored old t) (sym same) stored)
      ]),
    )
    | inr other ↦ (
      λ is. let was = (h.exact id value).0 (sym (changed.others id (λ e. other (sym e))) ∙ is) in (was.0, stays_after rows row old id (λ here. other here.0) was.1),
      λ is. changed.others id (λ e. other (sym e)) ∙ (h.exact id value).1 (is.0, stays_before rows row old id is.1),
    )
  ];
}
