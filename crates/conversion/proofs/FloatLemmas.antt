-- What is shown has no floats.
use Rattle.std.proofs.Common.{◌≡◌, ℕ, Bool, false, ◌||◌, List, [], ◌∷◌, ◌++◌, map, Option, Some, None, IfSome, IsSome, ℤ, pos, negsuc, refl, sym, ◌∙◌, ap, subst}
use Rattle.std.specs.List.Sorted.{IsStrictlySortedBy}
use Rattle.fields.specs.Map.{value_at}
use Rattle.fields.specs.Order.{Rises}
use Rattle.fields.specs.declared.field.Form.{Form}
use Rattle.fields.specs.declared.field.Form.TheVariants.{Same, Not, Decimal}
use Rattle.fields.specs.declared.map.FieldPair.{FieldPair}
use Rattle.fields.specs.declared.table.FieldRow.{FieldRow}
use Rattle.fields.specs.declared.value.FieldValue.{FieldValue}
use Rattle.fields.specs.declared.value.FieldValue.TheVariants.{Bool as Truth, Int, Text, List as Texts}
use Rattle.serde_json.specs.Data.{Data, null, boolean, number, string, array, object, Members, no_members, member}
use Rattle.serde_json.specs.Find.{get_member, of_integer}
use Rattle.serde_json.specs.View.{items_of}
use Rattle.serde_json.specs.Written.{has_float, items_have_float, members_have_float}
use Rattle.conversion.specs.Trees.{Names, Stands, IsObject}
use Rattle.conversion.specs.Writing.{IsWrittenIn}
use Rattle.conversion.specs.Reading.{IsHeld}
use Rattle.conversion.specs.Showing.{Shows, IsInOrder, AreInOrder, names_of}
use Rattle.conversion.proofs.TreeLemmas.{stands_one, stands_split, object_from_get, no_last}
use Rattle.conversion.proofs.MemberLemmas.{skips}
use Rattle.conversion.proofs.SameLemmas.{here, later}

-- ---- written values

number_plain : (z : ℤ) → has_float (number (of_integer z)) ≡ false
number_plain (pos n) = refl
number_plain (negsuc n) = refl

texts_plain : (ts : List (List ℕ)) → items_have_float (items_of (map string ts)) ≡ false
texts_plain [] = refl
texts_plain (t ∷ ts) = texts_plain ts

written_plain : (form : Form) (value : FieldValue) (json : Data) → IsWrittenIn form value json → has_float json ≡ false
written_plain Same (Truth b) json h = ap has_float h
written_plain Same (Int z) json h = ap has_float h.1 ∙ number_plain z
written_plain Same (Text t) json h = ap has_float h
written_plain Same (Texts ts) json h = ap has_float h ∙ texts_plain ts
written_plain Not (Truth b) json h = ap has_float h
written_plain Not (Int z) json h = absurd h
written_plain Not (Text t) json h = absurd h
written_plain Not (Texts ts) json h = absurd h
written_plain Decimal (Truth b) json h = absurd h
written_plain Decimal (Int z) json h = ap has_float h.1
written_plain Decimal (Text t) json h = absurd h
written_plain Decimal (Texts ts) json h = absurd h

-- ---- trees of such values

-- what stands in the tree and is no object has no float
abbrev IsPlain : Data → Type 0
IsPlain tree = (path : Names) (there : Data) → Stands tree path there → ¬ IsObject there → has_float there ≡ false

either : (a b : Bool) → a ≡ false → b ≡ false → (a || b) ≡ false
either a b h k = rw (h, k)

mutual
  unfolding IsStrictlySortedBy

  plain_tree : (tree : Data) → IsInOrder tree → IsPlain tree → has_float tree ≡ false
  plain_tree null up h = refl
  plain_tree (boolean b) up h = refl
  plain_tree (number n) up h = h [] (number n) refl (λ o. let e = o.1 in cc)
  plain_tree (string s) up h = refl
  plain_tree (array ds) up h = h [] (array ds) refl (λ o. let e = o.1 in cc)
  plain_tree (object ms) up h = plain_members ms up.0 up.1 (λ name inner found path there stands other. h (name ∷ path) there (inner, found, stands) other)

  plain_members : (ms : Members) → Rises (names_of ms) → AreInOrder ms → ((name : List ℕ) (inner : Data) → get_member name ms ≡ Some inner → IsPlain inner) → members_have_float ms ≡ false
  plain_members no_members up order h = refl
  plain_members (member k d ms) up order h =
      either (has_float d) (members_have_float ms) (plain_tree d order.0 (h k d (here k d ms)))
      (plain_members ms up.1 order.1 (λ name inner found. h name inner (skips name k d ms (later k d ms name inner up.0 found) ∙ found)))

held_leaf : (P : Data → Type 0) → ((form : Form) (value : FieldValue) (json : Data) → IsWrittenIn form value json → P json) → (tree : Data) (row : FieldRow) (o : Option FieldValue) → IfSome o (IsHeld tree row) → IsSome o
    → (json : Data) × Stands tree row.path json × P json
held_leaf P written tree row None h some = absurd cc
held_leaf P written tree row (Some v) h some = (h.json, h.stands, written row.form v h.json h.spelled.written)

at_end : (P : Data → Type 0) (tree : Data) (path rest : Names) (there json : Data) → Stands tree path there → ¬ IsObject there → Stands tree (path ++ rest) json → P json → P there
at_end P tree path [] there json stands other at leaf =
    subst P (sym (stands_one tree path there json stands (subst (λ p. Stands tree p json) (no_last path) at))) leaf
at_end P tree path (name ∷ rest) there json stands other at leaf =
    let x = stands_split tree path (name ∷ rest) json at in
    absurd (other (subst IsObject (stands_one tree path x.0 there x.1 stands) (object_from_get name x.0 x.2.0 x.2.1)))

-- what holds of each written value holds of what is shown and is no object
pub shown_leaf : (P : Data → Type 0) → ((form : Form) (value : FieldValue) (json : Data) → IsWrittenIn form value json → P json) → (rows : List FieldRow) (held : List FieldPair) (tree : Data) → Shows rows held tree
    → (path : Names) (there : Data) → Stands tree path there → ¬ IsObject there → P there
shown_leaf P written rows held tree h [] there stands other = absurd (other (subst IsObject stands h.object))
shown_leaf P written rows held tree h (name ∷ path) there stands other =
    let way = h.least (name ∷ path) there (λ e. cc) stands in
    let row = way.1 in
    let at = held_leaf P written tree row (value_at held row.id) (subst (λ (r : FieldRow). IfSome (value_at held r.id) (IsHeld tree r)) way.3 (h.each way.0 row way.2)) way.4.0 in
    at_end P tree (name ∷ path) way.4.1.0 there at.0 stands other (subst (λ p. Stands tree p at.0) way.4.1.1 at.1) at.2

pub shown_no_float : (rows : List FieldRow) (held : List FieldPair) (tree : Data) → Shows rows held tree → has_float tree ≡ false
shown_no_float rows held tree h = plain_tree tree h.order (shown_leaf (λ json. has_float json ≡ false) written_plain rows held tree h)
