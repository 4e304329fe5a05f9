-- One more row is shown.
use Rattle.std.proofs.Common.{◌≡◌, ◌≢◌, inl, inr, ℕ, ◌<◌, List, [], ◌∷◌, ◌++◌, length, get_or, take, Option, Some, None, All, IfSome, IsSome, refl, sym, ◌∙◌, subst, arith}
use Rattle.std.specs.List.{AllPairs}
use Rattle.std.proofs.lemmas.List.{get_or_default, get_or-take, length-take-le}
use Rattle.std.proofs.lemmas.List.Elements.{All-push}
use Rattle.basis.proofs.ElementLemmas.{Any-push_iff}
use Rattle.fields.specs.Map.{value_at}
use Rattle.fields.specs.Table.{LeadsThrough, AreApart, IsValueOf, type_of}
use Rattle.fields.specs.declared.map.FieldPair.{FieldPair}
use Rattle.fields.specs.declared.table.FieldRow.{FieldRow}
use Rattle.fields.specs.declared.value.FieldValue.{FieldValue}
use Rattle.serde_json.specs.Data.{Data, null, boolean, number, string, array, object, no_members}
use Rattle.conversion.specs.Trees.{Names, Stands}
use Rattle.conversion.specs.Reading.{IsHeld}
use Rattle.conversion.specs.Showing.{Shows, IsInOrder}
use Rattle.conversion.specs.Code.{IsPlaced, IsRowShown}
use Rattle.conversion.proofs.WritingLemmas.{IsLeaf, leaf_written}
use Rattle.conversion.proofs.PlaceLemmas.{placed_here, placed_keeps, placed_least, placed_object}
use Rattle.conversion.proofs.RoundLemmas.{ArePartedPaths}
use Rattle.std.specs.List.Sorted.{IsStrictlySortedBy}

no_names : (path : Names) (there : Data) → path ≢ [] → Stands (object no_members) path there → ⊥
no_names [] there some h = some refl
no_names (name ∷ path) there some h = let e = h.1 in cc

pub shows_none : (held : List FieldPair) → Shows [] held (object no_members)
unfolding IsStrictlySortedBy
shows_none held = record {
  object = (no_members, refl);
  each = λ k d below. absurd (omega arith);
  least = λ path there some h. absurd (no_names path there some h);
  order = (tt, tt);
}

leaf_in_order : (json : Data) → IsLeaf json → IsInOrder json
leaf_in_order null h = tt
leaf_in_order (boolean b) h = tt
leaf_in_order (number n) h = tt
leaf_in_order (string s) h = tt
leaf_in_order (array ds) h = tt
leaf_in_order (object ms) h = absurd h

kept : (path : Names) (json : Data) (old new : Data) (row : FieldRow) (o : Option FieldValue) → IsPlaced path json (Some old) new → ArePartedPaths path row.path → IfSome o (IsHeld old row) → IfSome o (IsHeld new row)
kept path json old new row None h parted k = tt
kept path json old new row (Some v) h parted k = record { json = k.json; stands = placed_keeps path row.path json (Some old) new k.json h parted (old, refl, k.stands); spelled = k.spelled }

-- the rows so far have paths apart from the row's
abbrev pub StandApart : FieldRow → List FieldRow → Type 0
StandApart row rows = All (λ other. ArePartedPaths row.path other.path) rows

all_kept : (rows : List FieldRow) (held : List FieldPair) (row : FieldRow) (json old new : Data) → IsPlaced row.path json (Some old) new → StandApart row rows → All (λ other. IfSome (value_at held other.id) (IsHeld old other)) rows
    → All (λ other. IfSome (value_at held other.id) (IsHeld new other)) rows
all_kept rows held row json old new h apart k i d below = kept row.path json old new (get_or rows i d) (value_at held (get_or rows i d).id) h (apart i d below) (k i d below)

shows_held : (rows : List FieldRow) (held : List FieldPair) (row : FieldRow) (v : FieldValue) (old new : Data) → Shows rows held old → StandApart row rows → row.path ≢ [] → value_at held row.id ≡ Some v → type_of v ≡ row.ty
    → IsRowShown row (Some v) old new → Shows (rows ++ row ∷ []) held new
shows_held rows held row v old new shows apart some is typed h =
    let leaf = leaf_written row.form v h.0 h.1 in
    let here : IfSome (value_at held row.id) (IsHeld new row) = subst (λ o. IfSome o (IsHeld new row)) (sym is) (let r : IsHeld new row v = record { json = h.0; stands = placed_here row.path h.0 (Some old) new h.2; spelled = record { typed = typed; written = h.1 } } in r) in
    let is_some : IsSome (value_at held row.id) = cc in
    record {
      object = placed_object row.path h.0 (Some old) new some h.2;
      each = All-push (λ other. IfSome (value_at held other.id) (IsHeld new other)) rows row (all_kept rows held row h.0 old new h.2 apart shows.each) here;
      least = λ path there not_empty stands.
          (Any-push_iff (λ other. IsSome (value_at held other.id) × LeadsThrough other.path path) rows row).1
          (elim (placed_least row.path path h.0 (Some old) new there leaf h.2 stands) [
            | inl through ↦ inr (is_some, through)
            | inr was ↦ inl (shows.least path there not_empty (let same : was.0 ≡ old = (let e = was.1 in cc) in subst (λ t. Stands t path there) same was.2))
          ]);
      order = h.3 shows.order (leaf_in_order h.0 leaf);
    }

shows_absent : (rows : List FieldRow) (held : List FieldPair) (row : FieldRow) (old new : Data) → Shows rows held old → value_at held row.id ≡ None → new ≡ old → Shows (rows ++ row ∷ []) held new
shows_absent rows held row old new shows is same =
    subst (Shows (rows ++ row ∷ []) held) (sym same)
    (record {
      object = shows.object;
      each = All-push (λ other. IfSome (value_at held other.id) (IsHeld old other)) rows row shows.each (subst (λ o. IfSome o (IsHeld old row)) (sym is) tt);
      least = λ path there not_empty stands. (Any-push_iff (λ other. IsSome (value_at held other.id) × LeadsThrough other.path path) rows row).1 (inl (shows.least path there not_empty stands));
      order = shows.order;
    })

pub shows_more : (rows : List FieldRow) (held : List FieldPair) (row : FieldRow) (old new : Data) → Shows rows held old → StandApart row rows → row.path ≢ [] → IfSome (value_at held row.id) (IsValueOf row.ty)
    → IsRowShown row (value_at held row.id) old new → Shows (rows ++ row ∷ []) held new
shows_more rows held row old new shows apart some typed h = by (value_at held row.id) refl typed h
  where
    by : (o : Option FieldValue) → value_at held row.id ≡ o → IfSome o (IsValueOf row.ty) → IsRowShown row o old new → Shows (rows ++ row ∷ []) held new
    by None e t k = shows_absent rows held row old new shows e k
    by (Some v) e t k = shows_held rows held row v old new shows apart some e t.typed k

-- ---- the rows before one, in a lawful table

pub before_apart : (rows : List FieldRow) (i : ℕ) (row : FieldRow) → AllPairs (λ one other. AreApart one.path other.path) rows → i < length rows → row ≡ get_or rows i row → StandApart row (take i rows)
before_apart rows i row apart below is k d inside =
    let size : length (take i rows) ≡ i = length-take-le i rows (omega arith) in
    let lt : k < i = omega arith in
    let parted = apart k i d lt below in
    let there : get_or (take i rows) k d ≡ get_or rows k d = get_or-take i rows k d lt in
    let here : get_or rows i d ≡ row = get_or_default rows i d row below ∙ sym is in
    let both : ArePartedPaths (get_or rows i d).path (get_or rows k d).path = (parted.not_within, parted.not_through) in
    subst (λ (r : FieldRow). ArePartedPaths row.path r.path) (sym there) (subst (λ (r : FieldRow). ArePartedPaths r.path (get_or rows k d).path) here both)
