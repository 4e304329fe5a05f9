-- How much longer a tree's text gets by a value that is placed in it.
use Rattle.std.proofs.Common.{◌≡◌, ℕ, ◌+◌, ◌*◌, ◌≤◌, Bool, true, false, cond, List, [], ◌∷◌, map, length, Option, Some, None, IfSome, Ordering, Less, Equal, Greater, nat_cmp, ℤ, pos, negsuc, refl, sym, ap, subst, arith, bytes_eq}
use Rattle.std.specs.Cmp.Lexicographic.{slice_cmp}
use Rattle.std.specs.Fmt.{signed_decimal}
use Rattle.std.specs.Ordering.{match_ordering}
use Rattle.std.specs.Prelude.{All}
use Rattle.std.proofs.lemmas.Fmt.{length_signed_le}
use Rattle.std.proofs.lemmas.Int.{ints}
use Rattle.std.proofs.lemmas.List.Elements.{All-head, All-tail}
use Rattle.std.proofs.lemmas.Slice.Eq.{bytes_eq-Decides}
use Rattle.basis.specs.Names.{BeginsLower, IsLetterOrDigit}
use Rattle.fields.specs.Table.{IsFormOf, IsInt64, IsValueOf, IsLawfulRow}
use Rattle.fields.specs.declared.field.Form.{Form}
use Rattle.fields.specs.declared.field.Form.TheVariants.{Same, Not, Decimal}
use Rattle.fields.specs.declared.table.FieldRow.{FieldRow}
use Rattle.fields.specs.declared.value.FieldValue.{FieldValue}
use Rattle.fields.specs.declared.value.FieldValue.TheVariants.{Bool as Truth, Int, Text, List as Texts}
use Rattle.serde_json.specs.Data.{Data, null, boolean, number, string, array, object, Members, no_members, member, put}
use Rattle.serde_json.specs.Find.{of_integer, get_member}
use Rattle.serde_json.specs.View.{items_of}
use Rattle.serde_json.specs.Written.{number_text}
use Rattle.conversion.specs.Code.{without, members_in, IsPlaced, KeepsOrder, IsRowShown}
use Rattle.conversion.specs.Trees.{Names}
use Rattle.conversion.specs.Writing.{IsWrittenIn}
use Rattle.conversion.proofs.MemberLemmas.{skips}
use Rattle.conversion.proofs.SameLemmas.{here}
use Rattle.conversion.proofs.StepLemmas.{placed_cons, order_cons}
use Rattle.conversion.proofs.WritingLemmas.{some_json}
use Rattle.body_bound.specs.Held.{list_bytes, value_bytes, some_bytes}
use Rattle.body_bound.specs.Room.{room, items_room, members_room}

-- ---- one value

whole_short : (z : ℤ) → IsInt64 z → length (signed_decimal z) ≤ 20
whole_short (pos n) h = length_signed_le 19 (pos n) (omega (arith, ints)) (omega (arith, ints))
whole_short (negsuc n) h = length_signed_le 19 (negsuc n) (omega (arith, ints)) (omega (arith, ints))

number_short : (z : ℤ) → IsInt64 z → length (number_text (of_integer z)) ≤ 20
number_short (pos n) h = whole_short (pos n) h
number_short (negsuc n) h = whole_short (negsuc n) h

list_room : (ts : List (List ℕ)) → items_room (items_of (map string ts)) ≤ 6 * list_bytes ts
list_room [] = omega arith
list_room (t ∷ ts) = let more = list_room ts in omega (arith, more)

value_room : (form : Form) (value : FieldValue) (json : Data) → IsWrittenIn form value json → room json ≤ 6 * value_bytes value + 130
value_room Same (Truth b) json h = subst (λ (d : Data). room d ≤ 130) (sym h) (omega arith)
value_room Same (Int z) json h = subst (λ (d : Data). room d ≤ 130) (sym h.1) (let short = number_short z h.0 in omega (arith, short))
value_room Same (Text t) json h = subst (λ (d : Data). room d ≤ 6 * (length t + 2) + 130) (sym h) (omega arith)
value_room Same (Texts ts) json h = subst (λ (d : Data). room d ≤ 6 * list_bytes ts + 130) (sym h) (let inner = list_room ts in omega (arith, inner))
value_room Not (Truth b) json h = subst (λ (d : Data). room d ≤ 130) (sym h) (omega arith)
value_room Not (Int z) json h = absurd h
value_room Not (Text t) json h = absurd h
value_room Not (Texts ts) json h = absurd h
value_room Decimal (Truth b) json h = absurd h
value_room Decimal (Int z) json h = subst (λ (d : Data). room d ≤ 130) (sym h.1) (let short = whole_short z h.0 in omega (arith, short))
value_room Decimal (Text t) json h = absurd h
value_room Decimal (Texts ts) json h = absurd h

-- ---- a member put in, and one taken out

abbrev pub old_room : Option Data → ℕ
old_room None = 0
old_room (Some tree) = room tree

put_by : (r : Ordering) (a b c : Members) (n : ℕ) → members_room a ≤ n → members_room b ≤ n → members_room c ≤ n → members_room (match_ordering r a b c) ≤ n
put_by Less a b c n p q s = p
put_by Equal a b c n p q s = q
put_by Greater a b c n p q s = s

pub put_room : (k : List ℕ) (d : Data) (ms : Members) → members_room (put k d ms) ≤ 6 * length k + 4 + room d + members_room ms
put_room k d no_members = omega arith
put_room k d (member l e ms) = let more = put_room k d ms in
    put_by (slice_cmp nat_cmp k l) _ _ _ _ (omega arith) (omega arith) (omega (arith, more))

without_at : (name other : List ℕ) (json : Data) (ms : Members) (b : Bool) → bytes_eq name other ≡ b
    → members_room (without name ms) + old_room (get_member name ms) ≤ members_room ms
    → members_room (cond b ms (member other json (without name ms))) + old_room (get_member name (member other json ms)) ≤ members_room (member other json ms)
without_at name other json ms true e later =
    let is = (bytes_eq-Decides name other).0 e in
    let found : get_member name (member other json ms) ≡ Some json = subst (λ (k : List ℕ). get_member k (member other json ms) ≡ Some json) (sym is) (here other json ms) in
    let size = ap old_room found in
    omega (arith, size)
without_at name other json ms false e later =
    let found = skips name other json ms (λ is. let t = (bytes_eq-Decides name other).1 is in cc) in
    let size = ap old_room found in
    omega (arith, size, later)

without_room : (name : List ℕ) (ms : Members) → members_room (without name ms) + old_room (get_member name ms) ≤ members_room ms
without_room name no_members = omega arith
without_room name (member other json ms) = without_at name other json ms (bytes_eq name other) refl (without_room name ms)

members_few : (old : Option Data) → members_room (members_in old) ≤ old_room old
members_few None = omega arith
members_few (Some null) = omega arith
members_few (Some (boolean b)) = omega arith
members_few (Some (number n)) = omega arith
members_few (Some (string s)) = omega arith
members_few (Some (array ds)) = omega arith
members_few (Some (object ms)) = omega arith

-- ---- a value placed at its path

abbrev path_room : Names → ℕ
path_room [] = 0
path_room (name ∷ path) = 6 * length name + 6 + path_room path

path_few : (path : Names) → All (BeginsLower 32 IsLetterOrDigit) path → path_room path ≤ 198 * length path
path_few [] names = omega arith
path_few (name ∷ path) names =
    let short = (All-head (BeginsLower 32 IsLetterOrDigit) name path names).short in
    let more = path_few path (All-tail (BeginsLower 32 IsLetterOrDigit) name path names) in
    omega (arith, short, more)

some_placed : (path : Names) (json : Data) (old : Option Data) → (new : Data) × IsPlaced path json old new × KeepsOrder old json new × (room new ≤ old_room old + room json + path_room path)
some_placed [] json old = (json, refl, (λ before leaf. leaf), omega arith)
some_placed (name ∷ path) json old =
    let ms = members_in old in
    let inner = some_placed path json (get_member name ms) in
    let below = inner.3 in
    let goes_in = put_room name inner.0 (without name ms) in
    let comes_out = without_room name ms in
    let whole = members_few old in (
      object (put name inner.0 (without name ms)),
      placed_cons name path json old inner.0 inner.1,
      order_cons name json old inner.0 inner.2,
      omega (arith, below, goes_in, comes_out, whole),
    )

-- the row's field, where it is held, is shown in a tree that isn't much longer
pub some_row : (row : FieldRow) (o : Option FieldValue) (old : Data) → IsLawfulRow row → IfSome o (IsValueOf row.ty)
    → (new : Data) × IsRowShown row o old new × (room new ≤ room old + 6 * some_bytes o + 1800)
some_row row None old lawful h = (old, refl, omega arith)
some_row row (Some v) old lawful h =
    let json = some_json row.form v (subst (λ ty. IsFormOf ty row.form) (sym h.typed) lawful.form) h.whole in
    let new = some_placed row.path json.0 (Some old) in
    let value = value_room row.form v json.0 json.1 in
    let few = lawful.path.0.few in
    let names = path_few row.path lawful.path.0.names in
    let size = new.3 in
    (new.0, (json.0, json.1, new.1, new.2), omega (arith, value, few, names, size))
