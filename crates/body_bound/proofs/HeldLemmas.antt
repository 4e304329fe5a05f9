-- The texts of the fields that a tree is read as: they stand at paths apart, so together they are within the tree's texts.
use Rattle.std.proofs.Common.{◌≡◌, ◌⊎◌, inl, inr, ⊎_elim, ℕ, suc, ◌+◌, ◌*◌, ◌≤◌, Bool, true, false, cond, List, [], ◌∷◌, map, length, get_or, Option, Some, None, IfSome, refl, sym, ◌∙◌, ap, subst, arith, bytes_eq}
use Rattle.std.specs.Prelude.{All, AllPairs}
use Rattle.std.proofs.lemmas.List.Elements.{All-head, All-tail}
use Rattle.std.proofs.lemmas.Slice.Eq.{bytes_eq-Decides}
use Rattle.fields.specs.Map.{value_at}
use Rattle.fields.specs.Table.{AreApart, IsDefaultOf, IsLawfulRow, AreLawful}
use Rattle.fields.specs.declared.field.Form.{Form}
use Rattle.fields.specs.declared.field.Form.TheVariants.{Same, Not, Decimal}
use Rattle.fields.specs.declared.map.FieldPair.{FieldPair}
use Rattle.fields.specs.declared.table.FieldRow.{FieldRow}
use Rattle.fields.specs.declared.value.FieldType.{FieldType}
use Rattle.fields.specs.declared.value.FieldValue.{FieldValue}
use Rattle.fields.specs.declared.value.FieldValue.TheVariants.{Bool as Truth, Int, Text, List as Texts}
use Rattle.serde_json.specs.Data.{Data, null, boolean, number, string, array, object, Members, no_members, member, put}
use Rattle.serde_json.specs.Find.{get_member}
use Rattle.serde_json.specs.View.{items_of}
use Rattle.conversion.specs.Code.{without, members_in, IsPlaced}
use Rattle.conversion.specs.Reading.{default_in, IsRead}
use Rattle.conversion.specs.Trees.{Names, Stands}
use Rattle.conversion.specs.Writing.{IsWrittenIn}
use Rattle.conversion.specs.declared.mode.Mode.{Mode}
use Rattle.conversion.specs.declared.mode.Mode.TheVariants.{Body, Stored}
use Rattle.conversion.proofs.MemberLemmas.{skips}
use Rattle.conversion.proofs.ObjectLemmas.{get_member-members_in}
use Rattle.conversion.proofs.PlaceLemmas.{placed_keeps}
use Rattle.conversion.proofs.SameLemmas.{here}
use Rattle.conversion.proofs.StepLemmas.{placed_cons}
use Rattle.body_bound.specs.Texts.{text_bytes, items_bytes, members_bytes}
use Rattle.body_bound.specs.Held.{list_bytes, value_bytes, some_bytes, held_bytes, HoldsWithin}
use Rattle.body_bound.proofs.TextLemmas.{put_within}

-- ---- one value

list_written : (ts : List (List ℕ)) → list_bytes ts ≤ items_bytes (items_of (map string ts))
list_written [] = omega arith
list_written (t ∷ ts) = let more = list_written ts in omega (arith, more)

value_written : (form : Form) (value : FieldValue) (json : Data) → IsWrittenIn form value json → value_bytes value ≤ text_bytes json
value_written Same (Truth b) json h = omega arith
value_written Same (Int z) json h = omega arith
value_written Same (Text t) json h = subst (λ (d : Data). length t + 2 ≤ text_bytes d) (sym h) (omega arith)
value_written Same (Texts ts) json h = subst (λ (d : Data). list_bytes ts ≤ text_bytes d) (sym h) (list_written ts)
value_written Not (Truth b) json h = omega arith
value_written Not (Int z) json h = absurd h
value_written Not (Text t) json h = absurd h
value_written Not (Texts ts) json h = absurd h
value_written Decimal (Truth b) json h = absurd h
value_written Decimal (Int z) json h = omega arith
value_written Decimal (Text t) json h = absurd h
value_written Decimal (Texts ts) json h = absurd h

default_few : (ty : FieldType) (value : FieldValue) → IsDefaultOf ty value → value_bytes value ≤ 1026
default_few ty (Truth b) h = omega arith
default_few ty (Int z) h = omega arith
default_few ty (Text t) h = let short = h.short in omega (arith, short)
default_few ty (Texts ts) h = absurd (h.not_list (sym h.typed))

some_few : (ty : FieldType) (o : Option FieldValue) → IfSome o (IsDefaultOf ty) → some_bytes o ≤ 1026
some_few ty None h = omega arith
some_few ty (Some value) h = default_few ty value h

if_on : (on : Bool) (o : Option FieldValue) → some_bytes o ≤ 1026 → some_bytes (cond on o None) ≤ 1026
if_on true o h = h
if_on false o h = omega arith

absent_few : (mode : Mode) (row : FieldRow) → IsLawfulRow row → some_bytes (default_in mode row) ≤ 1026
absent_few Stored row lawful = omega arith
absent_few Body row lawful = if_on row.on row.default (some_few row.ty row.default lawful.default)

-- so many bytes are those of a default, or of texts at the path
abbrev Takes : Data → Names → ℕ → Type 0
Takes tree path n = (n ≤ 1026) ⊎ ((json : Data) × Stands tree path json × (n ≤ text_bytes json))

row_takes : (mode : Mode) (tree : Data) (row : FieldRow) (o : Option FieldValue) → IsLawfulRow row → IsRead mode tree row o → Takes tree row.path (some_bytes o)
row_takes mode tree row o lawful read = ⊎_elim
    (λ found.
    let held = found.2 in
    inr (held.json, held.stands, subst (λ (p : Option FieldValue). some_bytes p ≤ text_bytes held.json) (sym found.1) (value_written row.form found.0 held.json held.spelled.written)))
    (λ none. inl (subst (λ (p : Option FieldValue). some_bytes p ≤ 1026) (sym none.1) (absent_few mode row lawful)))
    read

-- ---- a value cut out of a tree

same_some : (a b : Data) → Some a ≡ Some b → a ≡ b
same_some a b e = let f : Option Data → Data = λ o. elim o [ None ↦ a | Some d ↦ d ] in ap f e

without_at : (name other : List ℕ) (json inner : Data) (ms : Members) (b : Bool) → bytes_eq name other ≡ b → get_member name (member other json ms) ≡ Some inner
    → (get_member name ms ≡ Some inner → members_bytes (without name ms) + text_bytes inner ≤ members_bytes ms)
    → members_bytes (cond b ms (member other json (without name ms))) + text_bytes inner ≤ text_bytes json + members_bytes ms
without_at name other json inner ms true e found later =
    let is = (bytes_eq-Decides name other).0 e in
    let first : json ≡ inner = same_some json inner (sym (here other json ms) ∙ ap (λ (k : List ℕ). get_member k (member other json ms)) (sym is) ∙ found) in
    let size = ap text_bytes first in
    omega (arith, size)
without_at name other json inner ms false e found later =
    let more = later (sym (skips name other json ms (λ is. let t = (bytes_eq-Decides name other).1 is in cc)) ∙ found) in
    omega (arith, more)

without_bytes : (name : List ℕ) (inner : Data) (ms : Members) → get_member name ms ≡ Some inner → members_bytes (without name ms) + text_bytes inner ≤ members_bytes ms
without_bytes name inner no_members found = absurd cc
without_bytes name inner (member other json ms) found = without_at name other json inner ms (bytes_eq name other) refl found (without_bytes name inner ms)

members_few : (tree : Data) → members_bytes (members_in (Some tree)) ≤ text_bytes tree
members_few null = omega arith
members_few (boolean b) = omega arith
members_few (number n) = omega arith
members_few (string s) = omega arith
members_few (array ds) = omega arith
members_few (object ms) = omega arith

-- the tree with null at the path
abbrev cut : Names → Option Data → Data
cut [] old = null
cut (name ∷ path) old = object (put name (cut path (get_member name (members_in old))) (without name (members_in old)))

cut_placed : (path : Names) (old : Option Data) → IsPlaced path null old (cut path old)
cut_placed [] old = refl
cut_placed (name ∷ path) old = placed_cons name path null old (cut path (get_member name (members_in old))) (cut_placed path (get_member name (members_in old)))

cut_bytes : (path : Names) (tree json : Data) → Stands tree path json → text_bytes (cut path (Some tree)) + text_bytes json ≤ text_bytes tree
cut_bytes [] tree json is = let size = ap text_bytes is in omega (arith, size)
cut_bytes (name ∷ path) tree json (inner, found, stands) =
    let ms = members_in (Some tree) in
    let at : get_member name ms ≡ Some inner = get_member-members_in name tree ∙ found in
    let below = cut_bytes path inner json stands in
    let same = ap (λ (o : Option Data). text_bytes (cut path o)) at in
    let goes_in = put_within name (cut path (get_member name ms)) (without name ms) in
    let comes_out = without_bytes name inner ms at in
    let whole = members_few tree in
    omega (arith, below, same, goes_in, comes_out, whole)

still_takes : (tree : Data) (path q : Names) (n : ℕ) → AreApart path q → Takes tree q n → Takes (cut path (Some tree)) q n
still_takes tree path q n apart (inl few) = inl few
still_takes tree path q n apart (inr takes) =
    inr (takes.0, placed_keeps path q null (Some tree) (cut path (Some tree)) takes.0 (cut_placed path (Some tree)) (apart.not_through, apart.not_within) (tree, refl, takes.1), takes.2)

-- ---- all rows

pairs_head : (row : FieldRow) (rows : List FieldRow) → AllPairs (λ (one other : FieldRow). AreApart one.path other.path) (row ∷ rows) → All (λ (other : FieldRow). AreApart row.path other.path) rows
pairs_head row rows h j d within = h 0 (suc j) d (omega arith) (omega arith)

pairs_tail : (row : FieldRow) (rows : List FieldRow) → AllPairs (λ (one other : FieldRow). AreApart one.path other.path) (row ∷ rows) → AllPairs (λ (one other : FieldRow). AreApart one.path other.path) rows
pairs_tail row rows h i j d lt within = h (suc i) (suc j) d (omega arith) (omega arith)

rows_take : (held : List FieldPair) (rows : List FieldRow) (tree : Data) → AllPairs (λ (one other : FieldRow). AreApart one.path other.path) rows
    → All (λ (row : FieldRow). Takes tree row.path (some_bytes (value_at held row.id))) rows → held_bytes rows held ≤ text_bytes tree + 1026 * length rows
rows_take held [] tree apart takes = omega arith
rows_take held (row ∷ rows) tree apart takes = ⊎_elim
    (λ few.
    let more = rows_take held rows tree (pairs_tail row rows apart) (All-tail (λ (r : FieldRow). Takes tree r.path (some_bytes (value_at held r.id))) row rows takes) in
    omega (arith, few, more))
    (λ there.
    let less = cut row.path (Some tree) in
    let rest = All-tail (λ (r : FieldRow). Takes tree r.path (some_bytes (value_at held r.id))) row rows takes in
    let next : All (λ (r : FieldRow). Takes less r.path (some_bytes (value_at held r.id))) rows = λ k d within. still_takes tree row.path _ _ (pairs_head row rows apart k d within) (rest k d within) in
    let more = rows_take held rows less (pairs_tail row rows apart) next in
    let out = cut_bytes row.path tree there.0 there.1 in
    let size = there.2 in
    omega (arith, more, out, size))
    (All-head (λ (r : FieldRow). Takes tree r.path (some_bytes (value_at held r.id))) row rows takes)

pub holds_within : (rows : List FieldRow) (tree : Data) → AreLawful rows → HoldsWithin rows tree
holds_within rows tree lawful mode held reads =
    rows_take held rows tree lawful.apart (λ k d within. row_takes mode tree (get_or rows k d) _ (lawful.each k d within) (reads.each k d within))
