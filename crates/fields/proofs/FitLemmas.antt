-- What a map holds of the fields of some rows.
use Rattle.std.proofs.Common.{◌≡◌, ◌≢◌, ℕ, ◌<◌, Bool, true, false, ◌||◌, cond, List, [], ◌∷◌, length, get_or, map, Option, Some, None, All, nat_cmp, refl, sym, ◌∙◌, ap, subst, bytes_eq}
use Rattle.std.specs.Cmp.Lexicographic.{slice_cmp}
use Rattle.std.specs.List.{filter, list_any, AllByRecursion}
use Rattle.std.proofs.lemmas.List.Elements.{recursion_from_All, Contains-get_or}
use Rattle.std.proofs.lemmas.List.Folds.{list_any-from_Any}
use Rattle.std.proofs.lemmas.List.Kept.{IsStrictlySortedBy-filter}
use Rattle.std.proofs.lemmas.Slice.Eq.{bytes_eq-Decides}
use Rattle.fields.specs.Fits.{has_id, restricted}
use Rattle.fields.specs.Map.{IsMap, value_at}
use Rattle.fields.specs.Order.{Rises}
use Rattle.fields.specs.declared.map.FieldPair.{FieldPair}
use Rattle.fields.specs.declared.table.FieldRow.{FieldRow}
use Rattle.fields.specs.declared.value.FieldValue.{FieldValue}

filtered_ids : (test : List ℕ → Bool) (pairs : List FieldPair) → map (λ p. p.id) (filter (λ p. test p.id) pairs) ≡ filter test (map (λ p. p.id) pairs)
filtered_ids test [] = refl
filtered_ids test (p ∷ ps) = by (test p.id) (filtered_ids test ps)
  where
    by : (b : Bool) → map (λ q. q.id) (filter (λ q. test q.id) ps) ≡ filter test (map (λ q. q.id) ps)
        → map (λ q. q.id) (cond b (p ∷ filter (λ q. test q.id) ps) (filter (λ q. test q.id) ps)) ≡ cond b (p.id ∷ filter test (map (λ q. q.id) ps)) (filter test (map (λ q. q.id) ps))
    by true e = ap (λ ts. p.id ∷ ts) e
    by false e = e

pub restricted_map : (rows : List FieldRow) (held : List FieldPair) → IsMap held → IsMap (restricted rows held)
restricted_map rows held up =
    subst Rises (sym (filtered_ids (has_id rows) held)) (IsStrictlySortedBy-filter (slice_cmp nat_cmp) (has_id rows) (map (λ p. p.id) held) up)

kept_here : (test : List ℕ → Bool) (pairs : List FieldPair) (id : List ℕ) → test id ≡ true → value_at (filter (λ p. test p.id) pairs) id ≡ value_at pairs id
kept_here test [] id passes = refl
kept_here test (p ∷ ps) id passes = by (test p.id) (bytes_eq p.id id) refl refl (kept_here test ps id passes)
  where
    by : (b same : Bool) → test p.id ≡ b → bytes_eq p.id id ≡ same → value_at (filter (λ q. test q.id) ps) id ≡ value_at ps id
        → value_at (cond b (p ∷ filter (λ q. test q.id) ps) (filter (λ q. test q.id) ps)) id ≡ cond same (Some p.value) (value_at ps id)
    by true same t e more = ap (λ s. cond s (Some p.value) (value_at (filter (λ q. test q.id) ps) id)) e ∙ ap (λ o. cond same (Some p.value) o) more
    by false true t e more = absurd (let is = (bytes_eq-Decides p.id id).0 e in let f : test id ≡ false = subst (λ i. test i ≡ false) is t in cc)
    by false false t e more = more

left_out : (test : List ℕ → Bool) (pairs : List FieldPair) (id : List ℕ) → test id ≡ false → value_at (filter (λ p. test p.id) pairs) id ≡ None
left_out test [] id fails = refl
left_out test (p ∷ ps) id fails = by (test p.id) (bytes_eq p.id id) refl refl (left_out test ps id fails)
  where
    by : (b same : Bool) → test p.id ≡ b → bytes_eq p.id id ≡ same → value_at (filter (λ q. test q.id) ps) id ≡ None
        → value_at (cond b (p ∷ filter (λ q. test q.id) ps) (filter (λ q. test q.id) ps)) id ≡ None
    by true true t e more = absurd (let is = (bytes_eq-Decides p.id id).0 e in let f : test id ≡ true = subst (λ i. test i ≡ true) is t in cc)
    by true false t e more = ap (λ s. cond s (Some p.value) (value_at (filter (λ q. test q.id) ps) id)) e ∙ more
    by false same t e more = more

named : (rows : List FieldRow) (id : List ℕ) → AllByRecursion (λ (row : FieldRow). row.id ≢ id) rows → has_id rows id ≡ false
named [] id h = refl
named (row ∷ rows) id h = by (bytes_eq row.id id) refl (named rows id h.1)
  where
    by : (b : Bool) → bytes_eq row.id id ≡ b → has_id rows id ≡ false → (b || has_id rows id) ≡ false
    by true e more = absurd (h.0 ((bytes_eq-Decides row.id id).0 e))
    by false e more = more

pub restricted_at : (rows : List FieldRow) (held : List FieldPair) (k : ℕ) (d : FieldRow) → k < length rows
    → value_at (restricted rows held) (get_or rows k d).id ≡ value_at held (get_or rows k d).id
restricted_at rows held k d below =
    let row = get_or rows k d in
    let at = Contains-get_or rows k d below in
    kept_here (has_id rows) held row.id
    (list_any-from_Any (λ (r : FieldRow). bytes_eq r.id row.id) rows (at.0, row, at.1, at.2, (bytes_eq-Decides row.id row.id).1 refl))

pub restricted_only : (rows : List FieldRow) (held : List FieldPair) (id : List ℕ) → All (λ row. row.id ≢ id) rows → value_at (restricted rows held) id ≡ None
restricted_only rows held id none = left_out (has_id rows) held id (named rows id (recursion_from_All (λ (row : FieldRow). row.id ≢ id) rows none))
