-- The fields that rows are given, and one field more.
use Rattle.std.proofs.Common.{◌≡◌, ◌≢◌, ℕ, ◌<◌, Bool, true, false, cond, List, [], ◌∷◌, ◌++◌, map, Some, None, IfSome, refl, sym, ◌∙◌, ap, subst, bytes_eq, append_assoc, add-one, suc, ◌+◌, ◌≤◌, length, drop, get_or, arith}
use Rattle.std.specs.List.{AllByRecursion}
use Rattle.std.specs.List.Sorted.{IsStrictlySortedBy}
use Rattle.std.proofs.Math.Seq.{drop-cons}
use Rattle.std.proofs.lemmas.List.{append-nil, drop_all, map-append}
use Rattle.std.proofs.lemmas.List.Elements.{All-from_recursion, recursion_from_All}
use Rattle.std.proofs.lemmas.Slice.Eq.{bytes_eq-Decides}
use Rattle.fields.specs.Fits.{Fits}
use Rattle.fields.specs.Map.{IsMap, value_at, IsChangedAt}
use Rattle.fields.specs.Order.{IsBelow, Rises}
use Rattle.fields.specs.Table.{IdsRise, IsValueOf}
use Rattle.fields.specs.declared.map.FieldPair.{FieldPair}
use Rattle.fields.specs.declared.table.FieldRow.{FieldRow}
use Rattle.fields.specs.declared.value.FieldType.{FieldType}
use Rattle.fields.specs.declared.value.FieldType.TheVariants.{Bool as BoolType, Int as IntType, Text as TextType, TextList as ListType}
use Rattle.fields.specs.declared.value.FieldValue.{FieldValue}
use Rattle.fields.proofs.MapLemmas.{AllAbove, ids, below_differs, rises_before, rises_front, value_at-here, value_at-other, value_at-front, value_at-below, value_at-above, one_list}
use Rattle.workload.specs.Draws.{next, draw}
use Rattle.workload.specs.Values.{value_of, has_value, behind_choice, behind_field, fields_of, behind_fields}
use Rattle.workload.proofs.DrawLemmas.{draw_below}

-- ---- in order

above_one : (b : Bool) (id : List ℕ) (p : FieldPair) (rest : List FieldPair) → IsBelow id p.id → AllAbove id (ids rest) → AllAbove id (ids (cond b (p ∷ []) [] ++ rest))
above_one true id p rest h k = (h, k)
above_one false id p rest h k = k

above_fields : (id : List ℕ) (rows : List FieldRow) (x : ℕ) → AllAbove id (map (λ r. r.id) rows) → AllAbove id (ids (fields_of rows x))
above_fields id [] x h = tt
above_fields id (row ∷ rows) x h =
    above_one (has_value row x) id (record { id = row.id; value = value_of row.ty (behind_choice row x) }) (fields_of rows (behind_field row x)) h.0 (above_fields id rows (behind_field row x) h.1)

map_one : (b : Bool) (p : FieldPair) (rest : List FieldPair) → AllAbove p.id (ids rest) → IsMap rest → IsMap (cond b (p ∷ []) [] ++ rest)
unfolding IsStrictlySortedBy
map_one true p rest above up = (above, up)
map_one false p rest above up = up

pub map_fields : (rows : List FieldRow) (x : ℕ) → IdsRise rows → IsMap (fields_of rows x)
unfolding IsStrictlySortedBy
map_fields [] x up = tt
map_fields (row ∷ rows) x up =
    map_one (has_value row x) (record { id = row.id; value = value_of row.ty (behind_choice row x) }) (fields_of rows (behind_field row x)) (above_fields row.id rows (behind_field row x) up.0) (map_fields rows (behind_field row x) up.1)

-- ---- fields of the rows alone

typed : (ty : FieldType) (x : ℕ) → IsValueOf ty (value_of ty x)
typed BoolType x = record { typed = refl; whole = tt }
typed IntType x = let below : draw 1000 x < 1000 = draw_below 1000 x (omega arith) in record { typed = refl; whole = omega arith }
typed TextType x = record { typed = refl; whole = tt }
typed ListType x = record { typed = refl; whole = tt }

abbrev IsHeldBy : List FieldPair → FieldRow → Type 0
IsHeldBy held row = IfSome (value_at held row.id) (IsValueOf row.ty)

at_head : (b : Bool) (row : FieldRow) (p : FieldPair) (rest : List FieldPair) → p.id ≡ row.id → IsValueOf row.ty p.value → AllAbove row.id (ids rest) → IsHeldBy (cond b (p ∷ []) [] ++ rest) row
at_head true row p rest same is above =
    subst (λ o. IfSome o (IsValueOf row.ty)) (sym (subst (λ i. value_at (p ∷ rest) i ≡ Some p.value) same (value_at-here p rest))) is
at_head false row p rest same is above = subst (λ o. IfSome o (IsValueOf row.ty)) (sym (value_at-above rest row.id above)) tt

at_later : (b : Bool) (p : FieldPair) (rest : List FieldPair) (rows : List FieldRow) → AllAbove p.id (map (λ r. r.id) rows) → AllByRecursion (IsHeldBy rest) rows → AllByRecursion (IsHeldBy (cond b (p ∷ []) [] ++ rest)) rows
at_later b p rest [] above h = tt
at_later true p rest (r ∷ rs) above h =
    (subst (λ o. IfSome o (IsValueOf r.ty)) (sym (value_at-other p rest r.id (λ e. below_differs p.id r.id above.0 (sym e)))) h.0, at_later true p rest rs above.1 h.1)
at_later false p rest (r ∷ rs) above h = h

held_by : (rows : List FieldRow) (x : ℕ) → IdsRise rows → AllByRecursion (IsHeldBy (fields_of rows x)) rows
unfolding IsStrictlySortedBy
held_by [] x up = tt
held_by (row ∷ rows) x up =
    let p : FieldPair = record { id = row.id; value = value_of row.ty (behind_choice row x) } in
    let y = behind_field row x in (
      at_head (has_value row x) row p (fields_of rows y) refl (typed row.ty (behind_choice row x)) (above_fields row.id rows y up.0),
      at_later (has_value row x) p (fields_of rows y) rows up.0 (held_by rows y up.1),
    )

none_one : (b : Bool) (p : FieldPair) (rest : List FieldPair) (id : List ℕ) → p.id ≢ id → value_at rest id ≡ None → value_at (cond b (p ∷ []) [] ++ rest) id ≡ None
none_one true p rest id other none = value_at-other p rest id (λ e. other (sym e)) ∙ none
none_one false p rest id other none = none

none_else : (rows : List FieldRow) (x : ℕ) (id : List ℕ) → AllByRecursion (λ (row : FieldRow). row.id ≢ id) rows → value_at (fields_of rows x) id ≡ None
none_else [] x id h = refl
none_else (row ∷ rows) x id h =
    none_one (has_value row x) (record { id = row.id; value = value_of row.ty (behind_choice row x) }) (fields_of rows (behind_field row x)) id h.0 (none_else rows (behind_field row x) id h.1)

pub fields_fit : (rows : List FieldRow) (x : ℕ) → IdsRise rows → Fits rows (fields_of rows x)
fields_fit rows x up = record {
  map = map_fields rows x up;
  each = All-from_recursion (IsHeldBy (fields_of rows x)) rows (held_by rows x up);
  only = λ id h. none_else rows x id (recursion_from_All (λ (row : FieldRow). row.id ≢ id) rows h);
}

-- ---- one field more

pub appended : (old new : List FieldPair) (p : FieldPair) → IsMap (old ++ p ∷ []) → IsMap new → IsChangedAt p.id (Some p.value) old new → new ≡ old ++ p ∷ []
appended old new p up is changed = one_list new (old ++ p ∷ []) is up (λ t. by t (bytes_eq t p.id) refl)
  where
    by : (t : List ℕ) (b : Bool) → bytes_eq t p.id ≡ b → value_at new t ≡ value_at (old ++ p ∷ []) t
    by t true e =
        let same : t ≡ p.id = (bytes_eq-Decides t p.id).0 e in
        let below = rises_before (ids old) [] p.id (subst Rises (map-append (λ (q : FieldPair). q.id) old (p ∷ [])) up) in
        subst (λ i. value_at new i ≡ value_at (old ++ p ∷ []) i) (sym same) (changed.here ∙ sym (value_at-below old (p ∷ []) p.id below ∙ value_at-here p []))
    by t false e =
        let other = λ (same : t ≡ p.id). absurd (let s : true ≡ false = sym ((bytes_eq-Decides t p.id).1 same) ∙ e in cc) in
        changed.others t other ∙ sym (value_at-front old (p ∷ []) [] t (value_at-other p [] t other) ∙ ap (λ ps. value_at ps t) (append-nil old))

-- what is held so far, and what the rest of the rows will be given, are all that the rows are given
pub record OnWay (held : List FieldPair) (rest : List FieldRow) (x : ℕ) (all : List FieldPair) (z : ℕ) : Type 0 where
  pub so_far : held ++ fields_of rest x ≡ all
  pub behind : behind_fields rest x ≡ z

pub taken : (held : List FieldPair) (row : FieldRow) (rest : List FieldRow) (x : ℕ) (all : List FieldPair) (z : ℕ) → OnWay held (row ∷ rest) x all z → has_value row x ≡ true
    → OnWay (held ++ (record { id = row.id; value = value_of row.ty (behind_choice row x) }) ∷ []) rest (next (behind_choice row x)) all z
taken held row rest x all z way is =
    let p : FieldPair = record { id = row.id; value = value_of row.ty (behind_choice row x) } in
    let go : Bool → ℕ = λ b. cond b (next (behind_choice row x)) (behind_choice row x) in
    let parts : Bool → List FieldPair = λ b. cond b (p ∷ []) [] ++ fields_of rest (go b) in
    record {
      so_far = append_assoc held (p ∷ []) (fields_of rest (go true)) ∙ ap (λ b. held ++ parts b) (sym is) ∙ way.so_far;
      behind = ap (λ b. behind_fields rest (go b)) (sym is) ∙ way.behind;
    }

pub left : (held : List FieldPair) (row : FieldRow) (rest : List FieldRow) (x : ℕ) (all : List FieldPair) (z : ℕ) → OnWay held (row ∷ rest) x all z → has_value row x ≡ false
    → OnWay held rest (behind_choice row x) all z
left held row rest x all z way is =
    let p : FieldPair = record { id = row.id; value = value_of row.ty (behind_choice row x) } in
    let go : Bool → ℕ = λ b. cond b (next (behind_choice row x)) (behind_choice row x) in
    let parts : Bool → List FieldPair = λ b. cond b (p ∷ []) [] ++ fields_of rest (go b) in
    record {
      so_far = ap (λ b. held ++ parts b) (sym is) ∙ way.so_far;
      behind = ap (λ b. behind_fields rest (go b)) (sym is) ∙ way.behind;
    }

front_map : (held rest all : List FieldPair) → held ++ rest ≡ all → IsMap all → IsMap held
front_map held rest all e up = rises_front (ids held) (ids rest) (subst Rises (map-append (λ (q : FieldPair). q.id) held rest) (subst IsMap (sym e) up))

-- what is held is in order with one field more, as all are
pub next_map : (held : List FieldPair) (row : FieldRow) (rest : List FieldRow) (x : ℕ) (all : List FieldPair) (z : ℕ) → OnWay held (row ∷ rest) x all z → has_value row x ≡ true → IsMap all
    → IsMap (held ++ (record { id = row.id; value = value_of row.ty (behind_choice row x) }) ∷ [])
next_map held row rest x all z way is up = front_map _ (fields_of rest (next (behind_choice row x))) all (taken held row rest x all z way is).so_far up

-- on the way at a place of the rows
pub at_row : (held : List FieldPair) (rows : List FieldRow) (i : ℕ) (row : FieldRow) (x : ℕ) (all : List FieldPair) (z : ℕ) → OnWay held (drop i rows) x all z → i < length rows → row ≡ get_or rows i row → OnWay held (row ∷ drop (i + 1) rows) x all z
at_row held rows i row x all z way within is =
    let split : drop i rows ≡ row ∷ drop (i + 1) rows = drop-cons rows i row within ∙ ap (λ (r : FieldRow). r ∷ drop (suc i) rows) (sym is) ∙ ap (λ n. row ∷ drop n rows) (sym (add-one i)) in
    subst (λ rest. OnWay held rest x all z) split way

-- the end of the way
pub at_end : (held : List FieldPair) (rows : List FieldRow) (i x : ℕ) (all : List FieldPair) (z : ℕ) → OnWay held (drop i rows) x all z → length rows ≤ i → (held ≡ all) × (x ≡ z)
at_end held rows i x all z way past =
    let done : OnWay held [] x all z = subst (λ rest. OnWay held rest x all z) (drop_all i rows past) way in
    (sym (append-nil held) ∙ done.so_far, done.behind)

-- the field that is appended at a row is in its place
pub in_place : (held : List FieldPair) (rows : List FieldRow) (i : ℕ) (row : FieldRow) (x : ℕ) (all : List FieldPair) (z : ℕ) (flag : Bool) (y : ℕ) (id : List ℕ) (value : FieldValue)
    → OnWay held (drop i rows) x all z → i < length rows → row ≡ get_or rows i row → flag ≡ has_value row x → flag ≡ true → IsMap all → y ≡ behind_choice row x → value ≡ value_of row.ty y → id ≡ row.id
    → IsMap (held ++ (record { id = id; value = value }) ∷ [])
in_place held rows i row x all z flag y id value way within is test holds up state drawn same =
    let p : FieldPair = record { id = row.id; value = value_of row.ty (behind_choice row x) } in
    let as_drawn : value ≡ value_of row.ty (behind_choice row x) = drawn ∙ ap (value_of row.ty) state in
    let pair : p ≡ record { id = id; value = value } = λ j. record { id = sym same j; value = sym as_drawn j } in
    subst (λ (q : FieldPair). IsMap (held ++ q ∷ [])) pair (next_map held row (drop (i + 1) rows) x all z (at_row held rows i row x all z way within is) (sym test ∙ holds) up)
