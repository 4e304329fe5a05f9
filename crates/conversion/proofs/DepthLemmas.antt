-- How deep trees nest.
use Rattle.std.proofs.Common.{◌≡◌, ℕ, zero, suc, ◌+◌, ◌≤◌, max, List, [], ◌∷◌, ◌++◌, length, map, Option, Some, None, Ordering, Less, Equal, Greater, nat_cmp, refl, sym, ◌∙◌, ap, subst, arith}
use Rattle.std.specs.Cmp.Lexicographic.{slice_cmp}
use Rattle.std.specs.List.Sorted.{IsStrictlySortedBy}
use Rattle.std.specs.Ordering.{match_ordering}
use Rattle.std.proofs.lemmas.List.{length-append}
use Rattle.fields.specs.Order.{Rises}
use Rattle.fields.specs.Table.{IsLawfulRow, AreLawful}
use Rattle.fields.specs.declared.field.Form.{Form}
use Rattle.fields.specs.declared.field.Form.TheVariants.{Same, Not, Decimal}
use Rattle.fields.specs.declared.map.FieldPair.{FieldPair}
use Rattle.fields.specs.declared.table.FieldRow.{FieldRow}
use Rattle.fields.specs.declared.value.FieldValue.{FieldValue}
use Rattle.fields.specs.declared.value.FieldValue.TheVariants.{Bool as Truth, Int, Text, List as Texts}
use Rattle.serde_json.specs.Data.{Data, null, boolean, number, string, array, object, Members, no_members, member, depth, items_depth, members_depth}
use Rattle.serde_json.specs.Find.{get, get_member}
use Rattle.serde_json.specs.View.{items_of}
use Rattle.conversion.specs.Trees.{Names, Stands, IsObject}
use Rattle.conversion.specs.Writing.{IsWrittenIn}
use Rattle.conversion.specs.Showing.{Shows, IsInOrder, AreInOrder, names_of}
use Rattle.conversion.proofs.FloatLemmas.{shown_leaf}
use Rattle.conversion.proofs.MemberLemmas.{skips}
use Rattle.conversion.proofs.SameLemmas.{here, later}

-- ---- written values

texts_flat : (ts : List (List ℕ)) → items_depth (items_of (map string ts)) ≡ 0
texts_flat [] = refl
texts_flat (t ∷ ts) = let more = texts_flat ts in omega arith

written_flat : (form : Form) (value : FieldValue) (json : Data) → IsWrittenIn form value json → depth json ≤ 1
written_flat Same (Truth b) json h = let e : depth json ≡ 0 = ap depth h in omega arith
written_flat Same (Int z) json h = let e : depth json ≡ 0 = ap depth h.1 in omega arith
written_flat Same (Text t) json h = let e : depth json ≡ 0 = ap depth h in omega arith
written_flat Same (Texts ts) json h = let e : depth json ≡ suc (items_depth (items_of (map string ts))) = ap depth h in let flat = texts_flat ts in omega arith
written_flat Not (Truth b) json h = let e : depth json ≡ 0 = ap depth h in omega arith
written_flat Not (Int z) json h = absurd h
written_flat Not (Text t) json h = absurd h
written_flat Not (Texts ts) json h = absurd h
written_flat Decimal (Truth b) json h = absurd h
written_flat Decimal (Int z) json h = let e : depth json ≡ 0 = ap depth h.1 in omega arith
written_flat Decimal (Text t) json h = absurd h
written_flat Decimal (Texts ts) json h = absurd h

-- ---- members

max_at_most : (m n k : ℕ) → m ≤ k → n ≤ k → max m n ≤ k
max_at_most m n k h g = omega arith

pub members_within : (ms : Members) (k : ℕ) → Rises (names_of ms) → ((name : List ℕ) (inner : Data) → get_member name ms ≡ Some inner → depth inner ≤ k) → members_depth ms ≤ k
unfolding IsStrictlySortedBy
members_within no_members k up h = omega arith
members_within (member l d ms) k up h =
    max_at_most (depth d) (members_depth ms) k (h l d (here l d ms))
    (members_within ms k up.1 (λ name inner found. h name inner (skips name l d ms (later l d ms name inner up.0 found) ∙ found)))

member_at : (o : Ordering) (found : Option Data) (d inner : Data) (n : ℕ) → (found ≡ Some inner → depth inner ≤ n) → match_ordering o found (Some d) found ≡ Some inner → depth inner ≤ max (depth d) n
member_at Less found d inner n more h = let at = more h in omega arith
member_at Equal found d inner n more h = let same : d ≡ inner = cc in let e : depth d ≡ depth inner = ap depth same in omega arith
member_at Greater found d inner n more h = let at = more h in omega arith

-- what is within is less deep
pub member_depth : (name : List ℕ) (ms : Members) (inner : Data) → get_member name ms ≡ Some inner → depth inner ≤ members_depth ms
member_depth name no_members inner h = absurd cc
member_depth name (member l d ms) inner h = member_at (slice_cmp nat_cmp name l) (get_member name ms) d inner (members_depth ms) (member_depth name ms inner) h

-- ---- trees whose paths are short

-- what is no object is a leaf, or a list of such
abbrev IsFlat : Data → Type 0
IsFlat tree = (path : Names) (there : Data) → Stands tree path there → ¬ IsObject there → depth there ≤ 1

abbrev IsWithin : ℕ → Data → Type 0
IsWithin k tree = (path : Names) (there : Data) → Stands tree path there → length path ≤ k

-- its paths are shorter
abbrev IsBelow : ℕ → Data → Type 0
IsBelow k inner = (m : ℕ) × (suc m ≡ k) × IsWithin m inner

below_at : (k : ℕ) (name : List ℕ) (ms : Members) (inner : Data) → IsWithin k (object ms) → get_member name ms ≡ Some inner → IsBelow k inner
below_at zero name ms inner within found = absurd (let w = within (name ∷ []) inner (inner, found, refl) in omega arith)
below_at (suc m) name ms inner within found = (m, refl, λ path there stands. let w = within (name ∷ path) there (inner, found, stands) in omega arith)

mutual
  unfolding IsStrictlySortedBy

  tree_depth : (tree : Data) (k : ℕ) → IsInOrder tree → IsFlat tree → IsWithin k tree → depth tree ≤ suc k
  tree_depth null k up flat within = omega arith
  tree_depth (boolean b) k up flat within = omega arith
  tree_depth (number n) k up flat within = omega arith
  tree_depth (string s) k up flat within = omega arith
  tree_depth (array ds) k up flat within = let one = flat [] (array ds) refl (λ o. let e = o.1 in cc) in omega arith
  tree_depth (object ms) k up flat within =
      let inside = depths ms k up.0 up.1 (λ name inner found. (λ path there stands other. flat (name ∷ path) there (inner, found, stands) other, below_at k name ms inner within found)) in
      omega arith

  depths : (ms : Members) (k : ℕ) → Rises (names_of ms) → AreInOrder ms → ((name : List ℕ) (inner : Data) → get_member name ms ≡ Some inner → IsFlat inner × IsBelow k inner) → members_depth ms ≤ k
  depths no_members k up order h = omega arith
  depths (member l d ms) k up order h =
      let at = h l d (here l d ms) in
      let below : IsBelow k d = at.1 in
      let head = tree_depth d below.0 order.0 at.0 below.2 in
      let is = below.1 in
      max_at_most (depth d) (members_depth ms) k (subst (λ n. depth d ≤ n) is head)
      (depths ms k up.1 order.1 (λ name inner found. h name inner (skips name l d ms (later l d ms name inner up.0 found) ∙ found)))

-- ---- what is shown

shown_within : (rows : List FieldRow) (held : List FieldPair) (tree : Data) → AreLawful rows → Shows rows held tree → IsWithin 8 tree
shown_within rows held tree lawful h [] there stands = omega arith
shown_within rows held tree lawful h (name ∷ path) there stands =
    let way = h.least (name ∷ path) there (λ e. cc) stands in
    let row = way.1 in
    let is : IsLawfulRow row = subst IsLawfulRow way.3 (lawful.each way.0 row way.2) in
    let few = is.path.0.few in
    let longer = length-append (name ∷ path) way.4.1.0 in
    let parts : length row.path ≡ length ((name ∷ path) ++ way.4.1.0) = ap length way.4.1.1 in
    let fits : length (name ∷ path) ≤ length ((name ∷ path) ++ way.4.1.0) = omega arith in
    omega arith

pub shown_depth : (rows : List FieldRow) (held : List FieldPair) (tree : Data) → AreLawful rows → Shows rows held tree → depth tree ≤ 9
shown_depth rows held tree lawful h = tree_depth tree 8 h.order (shown_leaf (λ json. depth json ≤ 1) written_flat rows held tree h) (shown_within rows held tree lawful h)
