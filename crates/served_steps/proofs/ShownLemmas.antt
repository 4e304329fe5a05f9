-- What shows texts in UTF-8 is clean, and so there is a record of an object that holds such.
use Rattle.std.proofs.Common.{◌≡◌, inl, inr, ◌++◌, ℕ, ◌<◌, List, [], ◌∷◌, map, codes, decimal, Option, Some, None, IfSome, IsSome, All, ℤ, pos, negsuc, Less, Equal, Greater, Ordering, nat_cmp, IsUtf8, refl, sym, ◌∙◌, subst, arith}
use Rattle.std.specs.Cmp.Lexicographic.{slice_cmp}
use Rattle.std.specs.Fmt.{signed_decimal}
use Rattle.std.specs.List.Sorted.{IsStrictlySortedBy}
use Rattle.std.specs.Ordering.{match_ordering}
use Rattle.std.proofs.lemmas.Fmt.{IsAscii-decimal}
use Rattle.std.proofs.lemmas.Int.{ints}
use Rattle.std.proofs.lemmas.List.Elements.{All-head, All-tail}
use Rattle.std.proofs.lemmas.Str.{IsUtf8-append, IsUtf8-nil, IsUtf8-from_ascii}
use Rattle.basis.specs.Names.{BeginsLower, IsLetterOrDigit}
use Rattle.conversion.proofs.ExistLemmas.{some_shown}
use Rattle.conversion.proofs.MemberLemmas.{rises-put, skips}
use Rattle.conversion.proofs.SameLemmas.{here, later}
use Rattle.conversion.proofs.TreeLemmas.{stands_one, stands_split, object_from_get, no_last}
use Rattle.conversion.proofs.WholeLemmas.{whole_is}
use Rattle.conversion.proofs.WholeReadLemmas.{whole_round}
use Rattle.conversion.specs.Reading.{IsHeld}
use Rattle.conversion.specs.Showing.{Shows, IsInOrder, AreInOrder, names_of}
use Rattle.conversion.specs.Trees.{Names, Stands, IsObject}
use Rattle.conversion.specs.Whole.{api_version, kind}
use Rattle.conversion.specs.Writing.{IsWrittenIn}
use Rattle.fields.specs.Fits.{Fits}
use Rattle.fields.specs.Map.{value_at}
use Rattle.fields.specs.Order.{Rises}
use Rattle.fields.specs.Table.{IsInt64, IsLawfulRow, AreLawful}
use Rattle.fields.specs.declared.field.Form.{Form}
use Rattle.fields.specs.declared.field.Form.TheVariants.{Same, Not, Decimal}
use Rattle.fields.specs.declared.map.FieldPair.{FieldPair}
use Rattle.fields.specs.declared.table.FieldRow.{FieldRow}
use Rattle.fields.specs.declared.table.VersionTable.{VersionTable}
use Rattle.fields.specs.declared.value.FieldValue.{FieldValue}
use Rattle.fields.specs.declared.value.FieldValue.TheVariants.{Bool as Truth, Int, Text, List as Texts}
use Rattle.json.proofs.Printed.Utf8.{IsUtf8-are_ascii}
use Rattle.lifecycle.specs.Names.{group_version}
use Rattle.serde_json.specs.Data.{Data, null, boolean, number, string, array, object, Members, no_members, member, put}
use Rattle.serde_json.specs.Find.{get_member, of_integer}
use Rattle.serde_json.specs.View.{items_of}
use Rattle.serde_json.specs.Written.{compact_text}
use Rattle.storage_version.specs.Bodies.{IsBodyOf}
use Rattle.served_steps.specs.Texts.{IsTextTable}
use Rattle.served_steps.proofs.ContentLemmas.{one_utf8}
use Rattle.served_steps.proofs.CleanLemmas.{IsNum, IsClean, AreClean, HaveClean, clean_text, negative_utf8}

-- ---- texts

abbrev pub AreUtf8 : List (List ℕ) → Type 0
AreUtf8 [] = Unit {0}
AreUtf8 (t ∷ ts) = IsUtf8 t × AreUtf8 ts

-- the value's texts are UTF-8
abbrev pub IsTextual : FieldValue → Type 0
IsTextual (Truth b) = Unit {0}
IsTextual (Int z) = Unit {0}
IsTextual (Text t) = IsUtf8 t
IsTextual (Texts ts) = AreUtf8 ts

-- the map's texts are UTF-8
abbrev pub HoldsTexts : List FieldPair → Type 0
HoldsTexts held = (id : List ℕ) (value : FieldValue) → value_at held id ≡ Some value → IsTextual value

letter_small : (c : ℕ) → IsLetterOrDigit c → c < 128
letter_small c (inl h) = omega (arith, h.0, h.1)
letter_small c (inr (inl h)) = omega (arith, h.0, h.1)
letter_small c (inr (inr h)) = omega (arith, h.0, h.1)

letters_utf8 : (text : List ℕ) → All IsLetterOrDigit text → IsUtf8 text
letters_utf8 [] h = IsUtf8-nil
letters_utf8 (c ∷ cs) h =
    let small : c < 128 = letter_small c (All-head IsLetterOrDigit c cs h) in
    IsUtf8-append (c ∷ []) cs (one_utf8 c small) (letters_utf8 cs (All-tail IsLetterOrDigit c cs h))

path_utf8 : (path : Names) → All (BeginsLower 32 IsLetterOrDigit) path → AreUtf8 path
path_utf8 [] h = tt
path_utf8 (name ∷ path) h =
    (letters_utf8 name (All-head (BeginsLower 32 IsLetterOrDigit) name path h).bytes, path_utf8 path (All-tail (BeginsLower 32 IsLetterOrDigit) name path h))

front_utf8 : (front rest : Names) → AreUtf8 (front ++ rest) → AreUtf8 front
front_utf8 [] rest h = tt
front_utf8 (name ∷ front) rest h = (h.0, front_utf8 front rest h.1)

-- ---- written values

int_num : (z : ℤ) → IsInt64 z → IsNum (of_integer z)
int_num (pos n) h = omega (arith, ints)
int_num (negsuc n) h = omega (arith, ints)

int_utf8 : (z : ℤ) → IsInt64 z → IsUtf8 (signed_decimal z)
int_utf8 (pos n) h = IsUtf8-from_ascii (decimal n) (IsAscii-decimal n (omega (arith, ints)))
int_utf8 (negsuc n) h = negative_utf8 n (omega (arith, ints))

texts_clean : (ts : List (List ℕ)) → AreUtf8 ts → AreClean (items_of (map string ts))
texts_clean [] h = tt
texts_clean (t ∷ ts) h = (h.0, texts_clean ts h.1)

written_clean : (form : Form) (value : FieldValue) (json : Data) → IsTextual value → IsWrittenIn form value json → IsClean json
written_clean Same (Truth b) json text h = subst IsClean (sym h) tt
written_clean Same (Int z) json text h = subst IsClean (sym h.1) (int_num z h.0)
written_clean Same (Text t) json text h = subst IsClean (sym h) text
written_clean Same (Texts ts) json text h = subst IsClean (sym h) (texts_clean ts text)
written_clean Not (Truth b) json text h = subst IsClean (sym h) tt
written_clean Not (Int z) json text h = absurd h
written_clean Not (Text t) json text h = absurd h
written_clean Not (Texts ts) json text h = absurd h
written_clean Decimal (Truth b) json text h = absurd h
written_clean Decimal (Int z) json text h = subst IsClean (sym h.1) (int_utf8 z h.0)
written_clean Decimal (Text t) json text h = absurd h
written_clean Decimal (Texts ts) json text h = absurd h

-- ---- trees of such values

-- what stands in the tree and is no object is clean
abbrev HasCleanLeaves : Data → Type 0
HasCleanLeaves tree = (path : Names) (there : Data) → Stands tree path there → ¬ IsObject there → IsClean there

-- the names on the way to what stands in the tree are UTF-8
abbrev HasTextNames : Data → Type 0
HasTextNames tree = (path : Names) (there : Data) → Stands tree path there → AreUtf8 path

mutual
  unfolding IsStrictlySortedBy

  clean_tree : (tree : Data) → IsInOrder tree → HasCleanLeaves tree → HasTextNames tree → IsClean tree
  clean_tree null up leaves names = tt
  clean_tree (boolean b) up leaves names = tt
  clean_tree (number n) up leaves names = leaves [] (number n) refl (λ o. let e = o.1 in cc)
  clean_tree (string s) up leaves names = leaves [] (string s) refl (λ o. let e = o.1 in cc)
  clean_tree (array ds) up leaves names = leaves [] (array ds) refl (λ o. let e = o.1 in cc)
  clean_tree (object ms) up leaves names = (
    up.0,
    clean_members ms up.0 up.1 (λ name inner found. (
      (names (name ∷ []) inner (inner, found, refl)).0,
      (λ path there stands other. leaves (name ∷ path) there (inner, found, stands) other),
      (λ path there stands. (names (name ∷ path) there (inner, found, stands)).1),
    )),
  )

  clean_members : (ms : Members) → Rises (names_of ms) → AreInOrder ms → ((name : List ℕ) (inner : Data) → get_member name ms ≡ Some inner → IsUtf8 name × HasCleanLeaves inner × HasTextNames inner) → HaveClean ms
  clean_members no_members up order h = tt
  clean_members (member k d ms) up order h =
      let at = h k d (here k d ms) in (
        at.0,
        clean_tree d order.0 at.1 at.2,
        clean_members ms up.1 order.1 (λ name inner found. h name inner (skips name k d ms (later k d ms name inner up.0 found) ∙ found)),
      )

held_leaf : (tree : Data) (row : FieldRow) (o : Option FieldValue) → IfSome o IsTextual → IfSome o (IsHeld tree row) → IsSome o → (json : Data) × Stands tree row.path json × IsClean json
held_leaf tree row None text h some = absurd cc
held_leaf tree row (Some v) text h some = (h.json, h.stands, written_clean row.form v h.json text h.spelled.written)

at_end : (tree : Data) (path rest : Names) (there json : Data) → Stands tree path there → ¬ IsObject there → Stands tree (path ++ rest) json → IsClean json → IsClean there
at_end tree path [] there json stands other at leaf =
    subst IsClean (sym (stands_one tree path there json stands (subst (λ p. Stands tree p json) (no_last path) at))) leaf
at_end tree path (name ∷ rest) there json stands other at leaf =
    let x = stands_split tree path (name ∷ rest) json at in
    absurd (other (subst IsObject (stands_one tree path x.0 there x.1 stands) (object_from_get name x.0 x.2.0 x.2.1)))

held_text : (held : List FieldPair) (id : List ℕ) (o : Option FieldValue) → HoldsTexts held → value_at held id ≡ o → IfSome o IsTextual
held_text held id None texts is = tt
held_text held id (Some v) texts is = texts id v is

module _ (rows : List FieldRow) (held : List FieldPair) (lawful : AreLawful rows) (texts : HoldsTexts held) (tree : Data) (h : Shows rows held tree) where
  shown_leaves : HasCleanLeaves tree
  shown_leaves [] there stands other = absurd (other (subst IsObject stands h.object))
  shown_leaves (name ∷ path) there stands other =
      let way = h.least (name ∷ path) there (λ e. cc) stands in
      let row = way.1 in
      let at = held_leaf tree row (value_at held row.id) (held_text held row.id (value_at held row.id) texts refl)
      (subst (λ (r : FieldRow). IfSome (value_at held r.id) (IsHeld tree r)) way.3 (h.each way.0 row way.2)) way.4.0 in
      at_end tree (name ∷ path) way.4.1.0 there at.0 stands other (subst (λ p. Stands tree p at.0) way.4.1.1 at.1) at.2

  shown_names : HasTextNames tree
  shown_names [] there stands = tt
  shown_names (name ∷ path) there stands =
      let way = h.least (name ∷ path) there (λ e. cc) stands in
      let row = way.1 in
      let is : IsLawfulRow row = subst IsLawfulRow way.3 (lawful.each way.0 row way.2) in
      front_utf8 (name ∷ path) way.4.1.0 (subst AreUtf8 way.4.1.1 (path_utf8 row.path is.path.0.names))

  shown_clean : IsClean tree
  shown_clean = clean_tree tree h.order shown_leaves shown_names

-- ---- whole objects

clean_put_at : (o : Ordering) (k l : List ℕ) (d e : Data) (ms : Members) → IsUtf8 k → IsClean d → HaveClean (member l e ms) → HaveClean (put k d ms)
    → HaveClean (match_ordering o (member k d (member l e ms)) (member l d ms) (member l e (put k d ms)))
clean_put_at Less k l d e ms name clean h more = (name, clean, h)
clean_put_at Equal k l d e ms name clean h more = (h.0, clean, h.2)
clean_put_at Greater k l d e ms name clean h more = (h.0, h.1, more)

clean_put : (k : List ℕ) (d : Data) (ms : Members) → IsUtf8 k → IsClean d → HaveClean ms → HaveClean (put k d ms)
clean_put k d no_members name clean h = (name, clean, tt)
clean_put k d (member l e ms) name clean h = clean_put_at (slice_cmp nat_cmp k l) k l d e ms name clean h (clean_put k d ms name clean h.2)

group_version_utf8 : (group version : List ℕ) → IsUtf8 group → IsUtf8 version → IsUtf8 (group_version group version)
group_version_utf8 [] version g v = v
group_version_utf8 (c ∷ cs) version g v = IsUtf8-append ((c ∷ cs) ++ codes "/") version (IsUtf8-append (c ∷ cs) (codes "/") g (IsUtf8-are_ascii (codes "/") refl)) v

-- there is a body of the fields, in this table's version
pub some_body : (table : VersionTable) (held : List FieldPair) → AreLawful table.rows → Fits table.rows held → HoldsTexts held → IsTextTable table → (body : List ℕ) × IsBodyOf table held body
some_body table held lawful fits texts text =
    let shown = some_shown table.rows held lawful fits in
    let ms : Members = shown.1.object.0 in
    let version = group_version table.group table.version in
    let fields_clean : IsClean (object ms) = subst IsClean shown.1.object.1 (shown_clean table.rows held lawful texts shown.0 shown.1) in
    let whole = whole_is table version held None shown.0 ms lawful shown.1 shown.1.object.1 in
    let own = put api_version (string version) ms in
    let all = put kind (string table.kind) own in
    let version_utf8 : IsUtf8 version = group_version_utf8 table.group table.version text.group text.version in
    let clean : IsClean (object all) = (
      rises-put kind (string table.kind) own (rises-put api_version (string version) ms fields_clean.0),
      clean_put kind (string table.kind) own (IsUtf8-are_ascii kind refl) text.kind (clean_put api_version (string version) ms (IsUtf8-are_ascii api_version refl) version_utf8 fields_clean.1),
    ) in
    (compact_text (object all), record { tree = object all; whole = whole; compact = refl; text = clean_text (object all) clean (all, refl) ((whole_round table lawful).shallow version held None (object all) tt whole) })
