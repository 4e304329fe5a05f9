-- Rows in order.
use Rattle.std.proofs.Common.{◌≡◌, ℕ, suc, ◌-◌, List, [], ◌∷◌, ◌++◌, length, map, Some, refl, sym, ap, subst, arith}
use Rattle.std.specs.List.{slice_get}
use Rattle.std.specs.List.Sorted.{IsStrictlySortedBy}
use Rattle.fields.specs.Order.{IsBelow, Rises}
use Rattle.fields.specs.Table.{IdsRise}
use Rattle.fields.specs.declared.table.FieldRow.{FieldRow}
use Rattle.fields.proofs.MapLemmas.{AllBelow, above_chain, rises_insert}

abbrev row_ids : List FieldRow → List (List ℕ)
row_ids rows = map (λ r. r.id) rows

below_last : (rows : List FieldRow) (x : List ℕ) → IdsRise rows → ((last : FieldRow) → slice_get rows (length rows - 1) ≡ Some last → IsBelow last.id x) → AllBelow x (row_ids rows)
unfolding IsStrictlySortedBy
below_last [] x up h = tt
below_last (r ∷ []) x up h = (h r refl, tt)
below_last (r ∷ s ∷ rows) x up h =
    let place : length (r ∷ s ∷ rows) - 1 ≡ suc (length (s ∷ rows) - 1) = omega arith in
    let rest = below_last (s ∷ rows) x up.1 (λ last e. h last (rw place e)) in
    ((above_chain r.id s.id (x ∷ []) up.0.0 (rest.0, tt)).0, rest)

ids_push : (rows : List FieldRow) (row : FieldRow) → row_ids (rows ++ row ∷ []) ≡ row_ids rows ++ row.id ∷ []
ids_push [] row = refl
ids_push (r ∷ rows) row = ap (λ ts. r.id ∷ ts) (ids_push rows row)

no_more : (ts : List (List ℕ)) → ts ++ [] ≡ ts
no_more [] = refl
no_more (t ∷ ts) = ap (λ xs. t ∷ xs) (no_more ts)

pub rises_push : (rows : List FieldRow) (row : FieldRow) → IdsRise rows → ((last : FieldRow) → slice_get rows (length rows - 1) ≡ Some last → IsBelow last.id row.id) → IdsRise (rows ++ row ∷ [])
rises_push rows row up h =
    subst Rises (sym (ids_push rows row)) (rises_insert (row_ids rows) [] row.id (subst Rises (sym (no_more (row_ids rows))) up) (below_last rows row.id up h) tt)

pub no_rows : IdsRise []
unfolding IsStrictlySortedBy
no_rows = tt
