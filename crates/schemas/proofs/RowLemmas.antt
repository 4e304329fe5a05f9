-- The laws of the rows of a version's table.
use Rattle.std.proofs.Common.{◌≡◌, inl, inr, ℕ, zero, suc, ◌+◌, ◌<◌, ◌≤◌, Bool, true, false, IsTrue, List, [], ◌∷◌, Some, length, map, take, get_or, Less, Equal, Contains, refl, sym, ◌∙◌, ap, subst, arith, cond}
use Rattle.std.specs.Prelude.{◌&&◌, nat_le, filter, slice_get, Any, IfSome}
use Rattle.std.specs.Ordering.{nat_cmp, eq_by_cmp}
use Rattle.std.specs.Cmp.Lexicographic.{slice_cmp}
use Rattle.std.specs.Bool.{Decides}
use Rattle.std.specs.Str.{bytes_eq}
use Rattle.std.proofs.lemmas.Bool.{false≢true, leb-true, le-leb, cases_Bool, cases_order, and_from, and_parts, cond-true, cond-false}
use Rattle.std.proofs.lemmas.Cmp.{nat_list_cmp_total, tied_itself, eq_by_cmp_equiv}
use Rattle.std.proofs.lemmas.List.{length-map, get_or-map, take_all, ext_get_or}
use Rattle.std.proofs.lemmas.List.Elements.{All-contains, All-from_recursion}
use Rattle.std.proofs.lemmas.List.Filters.{length-filter_more}
use Rattle.std.proofs.lemmas.Map.Keys.{IsDistinct-from_sorted, Less-from_sorted}
use Rattle.std.proofs.lemmas.Map.Lookups.{exact_bytes}
use Rattle.std.proofs.lemmas.Map.Made.{length-le_from_is_member, is_member-Decides}
use Rattle.std.proofs.lemmas.Map.Views.{tells_apart}
use Rattle.std.proofs.lemmas.Option.{slice_get_within, slice_get-get_or, get_or_from_slice_get}
use Rattle.std.proofs.lemmas.Slice.Eq.{bytes_eq-Decides}
use Rattle.basis.proofs.OrderLemmas.{one_in_order}
use Rattle.fields.specs.Fits.{AreOfSameFields, AreOneButOn}
use Rattle.fields.specs.Order.{Rises}
use Rattle.fields.specs.Table.{IsFieldPath, AreApart, AreLawful, IsFormOf, IsDefaultOf, IsLawfulRow}
use Rattle.fields.specs.declared.field.Field.{Field}
use Rattle.fields.specs.declared.field.Spell.{Spell}
use Rattle.fields.specs.declared.table.FieldRow.{FieldRow}
use Rattle.fields.specs.declared.value.FieldType.{FieldType}
use Rattle.fields.specs.declared.value.FieldType.TheVariants.{Bool as BoolType}
use Rattle.basis.proofs.FilterLemmas.{Contains-filter, Contains-from_filter, passes_from_filter}
use Rattle.lifecycle.specs.Entry.{GroupVersionResource}
use Rattle.schemas.specs.Cutoff.{fields_by, spells_by}
use Rattle.schemas.specs.Dated.{Dated, IsShaped}
use Rattle.schemas.specs.FieldRules.{is_of_resource}
use Rattle.schemas.specs.Laws.{IsDecodable, IsSpelledOnceBy, RowsAreLawful, IsThere, EachFieldHasRow, RowsAreAlike, AreThoseThere, RowsAreKept}
use Rattle.schemas.specs.Pairs.{IsOfField, IsSpelling}
use Rattle.schemas.specs.Rows.{IsSpelledAs, AreRowsAt}
use Rattle.schemas.specs.Rules.{IsAccepted}
use Rattle.schemas.specs.Shapes.{IsShapedSpell}
use Rattle.schemas.specs.SpellRules.{FitsType}
use Rattle.schemas.proofs.AcceptedLemmas as hr
use Rattle.schemas.proofs.FieldLawLemmas.{each_at, one_field, turned, paths_apart, decodable_spelled}
use Rattle.schemas.proofs.LawLemmas.{any_stands}
use Rattle.schemas.proofs.PlaceLemmas.{some_injective}
use Rattle.schemas.proofs.PreviousLemmas.{entry_at}
use Rattle.schemas.proofs.SpelledRows.{IsSpelledRow, SpellFields, spelled_rows, row_of, test_decided}

-- the field and the spelling that a row gives
record Given (h : Dated) (e : ℕ) (name : GroupVersionResource) (row : FieldRow) : Type 0 where
  pub place : ℕ
  pub field : Field
  pub field_stands : slice_get h.fields place ≡ Some field
  pub dated : field.since ≤ e
  pub spot : ℕ
  pub spell : Spell
  pub spell_stands : slice_get h.spells spot ≡ Some spell
  pub spelled : spell.since ≤ e
  pub spelling : IsSpelling field name spell
  pub given : IsSpelledAs field spell row

-- an element of a filtered list stands in the list, and passes
from_filtered : {X : Type 0} (p : X → Bool) (xs : List X) (x : X) (k : ℕ) → k < length (filter p xs) → get_or (filter p xs) k x ≡ x → ((i : ℕ) × (slice_get xs i ≡ Some x)) × (p x ≡ true)
from_filtered p xs x k below is =
    let there : Contains xs x = Contains-from_filter p xs x (k, below, is) in
    ((there.0, slice_get-get_or xs there.0 x there.1 ∙ ap Some there.2), passes_from_filter p xs x (k, below, is))

given : (h : Dated) (e : ℕ) (name : GroupVersionResource) (row : FieldRow) → IsSpelledRow (fields_by h.fields e) (spells_by h.spells e) name row → Given h e name row
given h e name row any =
    let field = from_filtered (λ f. nat_le f.since e) h.fields any.1 any.0 any.2 any.3 in
    let inner : Any (λ s. IsSpelling any.1 name s × IsSpelledAs any.1 s row) (spells_by h.spells e) = any.4 in
    let spell = from_filtered (λ s. nat_le s.since e) h.spells inner.1 inner.0 inner.2 inner.3 in
    record {
      place = field.0.0;
      field = any.1;
      field_stands = field.0.1;
      dated = leb-true any.1.since e field.1;
      spot = spell.0.0;
      spell = inner.1;
      spell_stands = spell.0.1;
      spelled = leb-true inner.1.since e spell.1;
      spelling = inner.4.0;
      given = inner.4.1;
    }

-- ---- one row

lawful_row : (h : Dated) → IsAccepted h → IsShaped h → (e : ℕ) (name : GroupVersionResource) (row : FieldRow) → Given h e name row → IsLawfulRow row
lawful_row h lawful shaped e name row g =
    let shape : IsShapedSpell g.spell = each_at IsShapedSpell h.spells g.spot g.spell g.spell_stands (All-from_recursion IsShapedSpell h.spells shaped.spells) in
    let path : IsFieldPath g.spell.path = (shape.path, ((hr.paths_apart h lawful) g.spot g.spell g.spell_stands).free) in
    let fits : FitsType g.field.ty g.spell.form g.spell.default = each_at (λ f. IsOfField f g.spell → FitsType f.ty g.spell.form g.spell.default) h.fields g.place g.field g.field_stands ((hr.types_fit h lawful) g.spot g.spell g.spell_stands) g.spelling.0 in
    record {
      path = subst IsFieldPath (sym g.given.path) path;
      form = subst (λ ty. IsFormOf ty row.form) (sym g.given.ty) (subst (IsFormOf g.field.ty) (sym g.given.form) fits.of_form);
      default = subst (λ ty. IfSome row.default (IsDefaultOf ty)) (sym g.given.ty) (subst (λ o. IfSome o (IsDefaultOf g.field.ty)) (sym g.given.default) fits.of_default);
    }

-- ---- two rows

same_field : (h : Dated) → IsAccepted h → (e : ℕ) (name other : GroupVersionResource) (row another : FieldRow) → name.group ≡ other.group → name.resource ≡ other.resource → row.id ≡ another.id → (a : Given h e name row) (b : Given h e other another) → a.field ≡ b.field
same_field h lawful e name other row another group resource id a b =
    let g : b.field.group ≡ a.field.group = b.spelling.0.group ∙ sym b.spelling.1.group ∙ sym group ∙ a.spelling.1.group ∙ sym a.spelling.0.group in
    let r : b.field.resource ≡ a.field.resource = b.spelling.0.resource ∙ sym b.spelling.1.resource ∙ sym resource ∙ a.spelling.1.resource ∙ sym a.spelling.0.resource in
    let i : b.field.id ≡ a.field.id = sym b.given.id ∙ sym id ∙ a.given.id in
    one_field h lawful a.place b.place a.field b.field a.field_stands b.field_stands (record { group = g; resource = r; id = i }) (record { group = sym g; resource = sym r; id = sym i })

below_apart : (a b : List ℕ) → slice_cmp nat_cmp a b ≡ Less → a ≡ b → ⊥
below_apart a b less same = let clash : Less ≡ Equal = sym less ∙ ap (slice_cmp nat_cmp a) (sym same) ∙ tied_itself nat_list_cmp_total a in cc

rows_apart : (h : Dated) → IsAccepted h → (e : ℕ) (name : GroupVersionResource) (row another : FieldRow) → slice_cmp nat_cmp row.id another.id ≡ Less → Given h e name row → Given h e name another → AreApart row.path another.path
rows_apart h lawful e name row another less a b =
    let there = paths_apart h lawful in
    let to_rows : AreApart a.spell.path b.spell.path → AreApart row.path another.path = λ apart. subst (λ p. AreApart p another.path) (sym a.given.path) (subst (AreApart a.spell.path) (sym b.given.path) apart) in
    elim (cases_order a.spot b.spot) [
      | inl same ↦ absurd
          (let one : a.spell ≡ b.spell = some_injective a.spell b.spell (sym a.spell_stands ∙ ap (slice_get h.spells) same ∙ b.spell_stands) in
          below_apart row.id another.id less (a.given.id ∙ a.spelling.0.id ∙ ap (λ (s : Spell). s.field) one ∙ sym b.spelling.0.id ∙ sym b.given.id))
      | inr (inl before) ↦ to_rows (there a.spot b.spot a.spell b.spell before a.spell_stands b.spell_stands
          (record { group = sym a.spelling.1.group ∙ b.spelling.1.group; version = sym a.spelling.1.version ∙ b.spelling.1.version; resource = sym a.spelling.1.resource ∙ b.spelling.1.resource }))
      | inr (inr after) ↦ to_rows (turned b.spell.path a.spell.path (there b.spot a.spot b.spell a.spell after b.spell_stands a.spell_stands
          (record { group = sym b.spelling.1.group ∙ a.spelling.1.group; version = sym b.spelling.1.version ∙ a.spelling.1.version; resource = sym b.spelling.1.resource ∙ a.spelling.1.resource })))
    ]

-- ---- how many rows

abbrev ids : List FieldRow → List (List ℕ)
ids rows = map (λ r. r.id) rows

same_texts : (a b : List ℕ) → eq_by_cmp (slice_cmp nat_cmp) a b ≡ true → a ≡ b
same_texts a b h = tells_apart exact_bytes a b h

-- of the fields that pass, each has fewer than n before it
filtered_few : (p : Field → Bool) (n : ℕ) (xs : List Field) (d : Field) → ((i : ℕ) (x : Field) → slice_get xs i ≡ Some x → p x ≡ true → length (filter p (take i xs)) < n) → (k : ℕ) → k ≤ length xs → length (filter p (take k xs)) ≤ n
filtered_few p n xs d few zero bound = omega arith
filtered_few p n xs d few (suc k) bound =
    let within : k < length xs = omega arith in
    let low : k ≤ length xs = omega arith in
    let next : suc k ≡ k + 1 = omega arith in
    let more : length (filter p (take (suc k) xs)) ≡ length (filter p (take k xs)) + cond (p (get_or xs k d)) 1 0 = ap (λ m. length (filter p (take m xs))) next ∙ length-filter_more p xs k d within in
    elim (cases_Bool (p (get_or xs k d))) [
      | inl passes ↦
          let less : length (filter p (take k xs)) < n = few k (get_or xs k d) (slice_get-get_or xs k d within) passes in
          let count : ℕ = cond (p (get_or xs k d)) 1 0 in
          let one : count ≡ 1 = cond-true (p (get_or xs k d)) 1 0 passes in
          omega (arith, more, less, one)
      | inr fails ↦
          let least : length (filter p (take k xs)) ≤ n = filtered_few p n xs d few k low in
          let count : ℕ = cond (p (get_or xs k d)) 1 0 in
          let none : count ≡ 0 = cond-false (p (get_or xs k d)) 1 0 fails in
          omega (arith, more, least, none)
    ]

is_of : (x y : Field) → y.group ≡ x.group → y.resource ≡ x.resource → is_of_resource x y ≡ true
is_of x y group resource = and_from (bytes_eq y.group x.group) (bytes_eq y.resource x.resource) ((bytes_eq-Decides y.group x.group).1 group) ((bytes_eq-Decides y.resource x.resource).1 resource)

of_is : (x y : Field) → is_of_resource x y ≡ true → (y.group ≡ x.group) × (y.resource ≡ x.resource)
of_is x y h = let parts = and_parts (bytes_eq y.group x.group) (bytes_eq y.resource x.resource) h in ((bytes_eq-Decides y.group x.group).0 parts.0, (bytes_eq-Decides y.resource x.resource).0 parts.1)

-- HR11: a resource has at most 64 fields
fields_few : (h : Dated) → IsAccepted h → (f : Field) → length (filter (is_of_resource f) h.fields) ≤ 64
fields_few h lawful f =
    let few : (i : ℕ) (x : Field) → slice_get h.fields i ≡ Some x → is_of_resource f x ≡ true → length (filter (is_of_resource f) (take i h.fields)) < 64 = λ i x stands is.
    let parts = of_is f x is in
    let same : is_of_resource x ≡ is_of_resource f = λ j y. bytes_eq y.group (parts.0 j) && bytes_eq y.resource (parts.1 j) in
    subst (λ (p : Field → Bool). length (filter p (take i h.fields)) < 64) same ((hr.fields_belong h lawful) i x stands).few in
    subst (λ xs. length (filter (is_of_resource f) xs) ≤ 64) (take_all (length h.fields) h.fields (omega arith)) (filtered_few (is_of_resource f) 64 h.fields f few (length h.fields) (omega arith))

mapped : {X Y : Type 0} (f : X → Y) (xs : List X) (x : X) → Contains xs x → Contains (map f xs) (f x)
mapped f xs x there =
    let below : there.0 < length xs = there.1 in
    let size : length (map f xs) ≡ length xs = length-map xs f in
    (there.0, omega (arith, below, size), get_or-map f xs there.0 x (f x) there.1 ∙ ap f there.2)

of_mapped : {X Y : Type 0} (f : X → Y) (xs : List X) (y : Y) (d : X) → Contains (map f xs) y → (x : X) × Contains xs x × (f x ≡ y)
of_mapped f xs y d there =
    let within : there.0 < length (map f xs) = there.1 in
    let size : length (map f xs) ≡ length xs = length-map xs f in
    let below : there.0 < length xs = omega (arith, within, size) in
    (get_or xs there.0 d, (there.0, below, get_or_any xs there.0 d below), sym (get_or-map f xs there.0 d y below) ∙ there.2)
  where
    get_or_any : {Z : Type 0} (zs : List Z) (k : ℕ) (c : Z) → k < length zs → get_or zs k (get_or zs k c) ≡ get_or zs k c
    get_or_any zs k c below = some_injective _ _ (sym (slice_get-get_or zs k (get_or zs k c) below) ∙ slice_get-get_or zs k c below)

rows_few : (h : Dated) → IsAccepted h → (e : ℕ) (name : GroupVersionResource) (rows : List FieldRow) → SpellFields (fields_by h.fields e) (spells_by h.spells e) name rows → length rows ≤ 64
rows_few h lawful e name [] spell = omega arith
rows_few h lawful e name (row ∷ more) spell =
    let rows : List FieldRow = row ∷ more in
    let first : Given h e name row = given h e name row (spell.each 0 row (omega arith)) in
    let few : length (filter (is_of_resource first.field) h.fields) ≤ 64 = fields_few h lawful first.field in
    let known : List (List ℕ) = map (λ (f : Field). f.id) (filter (is_of_resource first.field) h.fields) in
    let among : (id : List ℕ) → Contains (ids rows) id → Contains known id = λ id there.
    let one = of_mapped (λ r. r.id) rows id row there in
    let at : IsSpelledRow (fields_by h.fields e) (spells_by h.spells e) name one.0 = All-contains (IsSpelledRow (fields_by h.fields e) (spells_by h.spells e) name) rows one.0 spell.each one.1 in
    let g : Given h e name one.0 = given h e name one.0 at in
    let is : is_of_resource first.field g.field ≡ true = is_of first.field g.field (g.spelling.0.group ∙ sym g.spelling.1.group ∙ first.spelling.1.group ∙ sym first.spelling.0.group) (g.spelling.0.resource ∙ sym g.spelling.1.resource ∙ first.spelling.1.resource ∙ sym first.spelling.0.resource) in
    let there : Contains h.fields g.field = (g.place, slice_get_within h.fields g.place g.field g.field_stands, get_or_from_slice_get h.fields g.place g.field g.field g.field_stands) in
    subst (Contains known) (sym g.given.id ∙ one.2) (mapped (λ (f : Field). f.id) (filter (is_of_resource first.field) h.fields) g.field (Contains-filter (is_of_resource first.field) h.fields g.field there is)) in
    let same : (a b : List ℕ) → Decides (eq_by_cmp (slice_cmp nat_cmp) a b) (a ≡ b) = λ a b. (same_texts a b, λ is. subst (λ c. eq_by_cmp (slice_cmp nat_cmp) a c ≡ true) is ((eq_by_cmp_equiv nat_list_cmp_total).refl a)) in
    let fewer : length (ids rows) ≤ length known = length-le_from_is_member (eq_by_cmp_equiv nat_list_cmp_total) (ids rows) known (IsDistinct-from_sorted (slice_cmp nat_cmp) (ids rows) spell.order) (λ q there. (is_member-Decides same known q).1 (among q ((is_member-Decides same (ids rows) q).0 there))) in
    let here : length (ids rows) ≡ length rows = length-map rows (λ r. r.id) in
    let there : length known ≡ length (filter (is_of_resource first.field) h.fields) = length-map (filter (is_of_resource first.field) h.fields) (λ f. f.id) in
    omega (arith, fewer, here, there, few)

-- ---- the laws, of rows without a word on which are on

pub rows_lawful : (h : Dated) → IsAccepted h → IsShaped h → (name : GroupVersionResource) (e : ℕ) (rows : List FieldRow)
    → SpellFields (fields_by h.fields e) (spells_by h.spells e) name rows → AreLawful rows
rows_lawful h lawful shaped = λ (name : GroupVersionResource) (e : ℕ) (rows : List FieldRow) (spell : SpellFields (fields_by h.fields e) (spells_by h.spells e) name rows). record {
  few = rows_few h lawful e name rows spell;
  each = λ k d below. lawful_row h lawful shaped e name (get_or rows k d) (given h e name (get_or rows k d) (spell.each k d below));
  apart = λ i j d before below.
      let low : i < length rows = omega (arith, before, below) in
      let size : length (ids rows) ≡ length rows = length-map rows (λ r. r.id) in
      let within : j < length (ids rows) = omega (arith, below, size) in
      let less : slice_cmp nat_cmp (get_or rows i d).id (get_or rows j d).id ≡ Less = subst (λ a. slice_cmp nat_cmp a (get_or rows j d).id ≡ Less) (get_or-map (λ r. r.id) rows i d d.id low)
      (subst (λ b. slice_cmp nat_cmp (get_or (ids rows) i d.id) b ≡ Less) (get_or-map (λ r. r.id) rows j d d.id below) (Less-from_sorted (slice_cmp nat_cmp) (ids rows) i j d.id spell.order before within)) in
      rows_apart h lawful e name (get_or rows i d) (get_or rows j d) less (given h e name (get_or rows i d) (spell.each i d low)) (given h e name (get_or rows j d) (spell.each j d below));
}

stands_by : {X : Type 0} (p : X → Bool) (xs : List X) (i : ℕ) (x : X) → slice_get xs i ≡ Some x → p x ≡ true → Contains (filter p xs) x
stands_by p xs i x stands passes = Contains-filter p xs x (i, slice_get_within xs i x stands, get_or_from_slice_get xs i x x stands) passes

each_has_row : (h : Dated) → IsAccepted h → (name : GroupVersionResource) (e i : ℕ) (f : Field) (rows : List FieldRow)
    → IsDecodable h.apis name e → SpellFields (fields_by h.fields e) (spells_by h.spells e) name rows
    → slice_get h.fields i ≡ Some f → f.group ≡ name.group → f.resource ≡ name.resource → f.since ≤ e → Any (λ row. row.id ≡ f.id) rows
each_has_row h lawful = λ (name : GroupVersionResource) (e i : ℕ) (f : Field) (rows : List FieldRow) (is_decodable : IsDecodable h.apis name e) (spell : SpellFields (fields_by h.fields e) (spells_by h.spells e) name rows) (stands : slice_get h.fields i ≡ Some f) (group : f.group ≡ name.group) (resource : f.resource ≡ name.resource) (by : f.since ≤ e).
    let spelled : IsSpelledOnceBy e h.spells f name = decodable_spelled h lawful name e i f is_decodable stands group resource by in
    let P : Spell → Type 0 = λ s. IsSpelling f name s × (s.since ≤ e) in
    let some : Any P h.spells = spelled.some in
    spell.whole f some.1 (stands_by (λ g. nat_le g.since e) h.fields i f stands (le-leb f.since e by)) (stands_by (λ s. nat_le s.since e) h.spells some.0 some.1 (any_stands P h.spells some) (le-leb some.1.since e some.4.1)) some.4.0

ids_among : (h : Dated) → IsAccepted h → (name other : GroupVersionResource) (e : ℕ) (rows others : List FieldRow) → name.group ≡ other.group → name.resource ≡ other.resource → IsDecodable h.apis other e
    → SpellFields (fields_by h.fields e) (spells_by h.spells e) name rows → SpellFields (fields_by h.fields e) (spells_by h.spells e) other others → (id : List ℕ) → Contains (ids rows) id → Contains (ids others) id
ids_among h lawful name other e [] others group resource is_decodable spell also id there = absurd (let below : there.0 < 0 = there.1 in omega arith)
ids_among h lawful name other e (row ∷ more) others group resource is_decodable spell also id there =
    let rows : List FieldRow = row ∷ more in
    let one = of_mapped (λ r. r.id) rows id row there in
    let g : Given h e name one.0 = given h e name one.0 (All-contains (IsSpelledRow (fields_by h.fields e) (spells_by h.spells e) name) rows one.0 spell.each one.1) in
    let some : Any (λ r. r.id ≡ g.field.id) others = each_has_row h lawful other e g.place g.field others is_decodable also g.field_stands (g.spelling.0.group ∙ sym g.spelling.1.group ∙ group) (g.spelling.0.resource ∙ sym g.spelling.1.resource ∙ resource) g.dated in
    subst (Contains (ids others)) (some.4 ∙ sym g.given.id ∙ one.2) (mapped (λ r. r.id) others some.1 (some.0, some.2, some.3))

abbrev types : List FieldRow → List FieldType
types rows = map (λ r. r.ty) rows

pub rows_alike : (h : Dated) → IsAccepted h → (name other : GroupVersionResource) (e : ℕ) (rows others : List FieldRow)
    → name.group ≡ other.group → name.resource ≡ other.resource → IsDecodable h.apis name e → IsDecodable h.apis other e
    → SpellFields (fields_by h.fields e) (spells_by h.spells e) name rows → SpellFields (fields_by h.fields e) (spells_by h.spells e) other others
    → AreOfSameFields rows others
rows_alike h lawful = λ (name other : GroupVersionResource) (e : ℕ) (rows others : List FieldRow) (group : name.group ≡ other.group) (resource : name.resource ≡ other.resource) (one : IsDecodable h.apis name e) (two : IsDecodable h.apis other e) (spell : SpellFields (fields_by h.fields e) (spells_by h.spells e) name rows) (also : SpellFields (fields_by h.fields e) (spells_by h.spells e) other others).
    let same_ids : ids rows ≡ ids others = one_in_order (slice_cmp nat_cmp) nat_list_cmp_total (ids rows) (ids others) spell.order also.order (λ id. (ids_among h lawful name other e rows others group resource two spell also id, ids_among h lawful other name e others rows (sym group) (sym resource) one also spell id)) in
    let size : length rows ≡ length others = sym (length-map rows (λ r. r.id)) ∙ ap length same_ids ∙ length-map others (λ r. r.id) in
    record {
      ids = same_ids;
      types = ext_get_or BoolType (types rows) (types others) (length-map rows (λ r. r.ty) ∙ size ∙ sym (length-map others (λ r. r.ty))) (λ k below.
          let low : k < length rows = (let same : length (types rows) ≡ length rows = length-map rows (λ r. r.ty) in omega (arith, below, same)) in
          let also_low : k < length others = omega (arith, low, size) in
          let row = entry_at rows k low in
          let another = entry_at others k also_low in
          let row_is : get_or rows k row.0 ≡ row.0 = get_or_from_slice_get rows k row.0 row.0 row.1 in
          let another_is : get_or others k another.0 ≡ another.0 = get_or_from_slice_get others k another.0 another.0 another.1 in
          let same_id : row.0.id ≡ another.0.id = sym (get_or-map (λ r. r.id) rows k row.0 [] low ∙ ap (λ (r : FieldRow). r.id) row_is) ∙ ap (λ l. get_or l k []) same_ids ∙ get_or-map (λ r. r.id) others k another.0 [] also_low ∙ ap (λ (r : FieldRow). r.id) another_is in
          let a : Given h e name row.0 = given h e name row.0 (each_at (IsSpelledRow (fields_by h.fields e) (spells_by h.spells e) name) rows k row.0 row.1 spell.each) in
          let b : Given h e other another.0 = given h e other another.0 (each_at (IsSpelledRow (fields_by h.fields e) (spells_by h.spells e) other) others k another.0 another.1 also.each) in
          let same : a.field ≡ b.field = same_field h lawful e name other row.0 another.0 group resource same_id a b in
          get_or-map (λ r. r.ty) rows k row.0 BoolType low ∙ ap (λ (r : FieldRow). r.ty) row_is ∙ a.given.ty ∙ ap (λ (f : Field). f.ty) same ∙ sym (get_or-map (λ r. r.ty) others k another.0 BoolType also_low ∙ ap (λ (r : FieldRow). r.ty) another_is ∙ b.given.ty));
    }

-- ---- the same of the rows at a release

pub spelled_at : (h : Dated) (is_on : List ℕ → Bool) (name : GroupVersionResource) (e : ℕ) (rows : List FieldRow)
    → AreRowsAt h is_on name e rows → SpellFields (fields_by h.fields e) (spells_by h.spells e) name rows
spelled_at h is_on name e rows are =
    spelled_rows (λ gate. IsTrue (is_on gate)) (test_decided is_on) (fields_by h.fields e) (spells_by h.spells e) name rows are

pub lawful_at : (h : Dated) → IsAccepted h → IsShaped h → RowsAreLawful h
lawful_at h lawful shaped = λ is_on name e rows are. rows_lawful h lawful shaped name e rows (spelled_at h is_on name e rows are)

pub row_at : (h : Dated) → IsAccepted h → EachFieldHasRow h
row_at h lawful = λ is_on name e f rows decodes are there is.
    each_has_row h lawful name e there.0 f rows decodes (spelled_at h is_on name e rows are)
    (slice_get-get_or h.fields there.0 f there.1 ∙ ap Some there.2) is.group is.resource is.dated

pub alike_at : (h : Dated) → IsAccepted h → RowsAreAlike h
alike_at h lawful = λ is_on also_on name other e rows others group resource one two are also.
    rows_alike h lawful name other e rows others group resource one two (spelled_at h is_on name e rows are) (spelled_at h also_on other e others also)

-- ---- the rows of an earlier release

-- what a row gives is there in the history
holds_field : (h : Dated) (e : ℕ) (name : GroupVersionResource) (row : FieldRow) (g : Given h e name row) → Contains h.fields g.field
holds_field h e name row g =
    (g.place, slice_get_within h.fields g.place g.field g.field_stands, get_or_from_slice_get h.fields g.place g.field g.field g.field_stands)

holds_spell : (h : Dated) (e : ℕ) (name : GroupVersionResource) (row : FieldRow) (g : Given h e name row) → Contains h.spells g.spell
holds_spell h e name row g =
    (g.spot, slice_get_within h.spells g.spot g.spell g.spell_stands, get_or_from_slice_get h.spells g.spot g.spell g.spell g.spell_stands)

given_at : (h : Dated) (is_on : List ℕ → Bool) (name : GroupVersionResource) (e : ℕ) (rows : List FieldRow) → AreRowsAt h is_on name e rows
    → (row : FieldRow) → Contains rows row → Given h e name row
given_at h is_on name e rows are row there =
    given h e name row (All-contains (IsSpelledRow (fields_by h.fields e) (spells_by h.spells e) name) rows row (spelled_at h is_on name e rows are).each there)

-- the row of a field and a spelling that are there by the release
made_at : (h : Dated) (is_on : List ℕ → Bool) (name : GroupVersionResource) (e : ℕ) (rows : List FieldRow) → AreRowsAt h is_on name e rows
    → (f : Field) (s : Spell) → Contains h.fields f → Contains h.spells s → f.since ≤ e → s.since ≤ e → IsSpelling f name s
    → (row : FieldRow) × Contains rows row × IsSpelledAs f s row
made_at h is_on name e rows are f s has_field has_spell dated spelled is =
    row_of (λ gate. IsTrue (is_on gate)) (test_decided is_on) (fields_by h.fields e) (spells_by h.spells e) name rows are f s
    (Contains-filter (λ g. nat_le g.since e) h.fields f has_field (le-leb f.since e dated))
    (Contains-filter (λ t. nat_le t.since e) h.spells s has_spell (le-leb s.since e spelled)) is

one_but_on : (f : Field) (s : Spell) (row other : FieldRow) → IsSpelledAs f s row → IsSpelledAs f s other → AreOneButOn row other
one_but_on f s row other a b = record {
  id = a.id ∙ sym b.id;
  ty = a.ty ∙ sym b.ty;
  required = a.required ∙ sym b.required;
  path = a.path ∙ sym b.path;
  form = a.form ∙ sym b.form;
  default = a.default ∙ sym b.default;
}

-- the field has one spelling in the version, which is there once the field and the version are
there_by : (h : Dated) → IsAccepted h → (name : GroupVersionResource) (m e : ℕ) (row : FieldRow) → IsDecodable h.apis name m
    → (g : Given h e name row) → g.field.since ≤ m → g.spell.since ≤ m
there_by h lawful name m e row decodes g dated =
    let once : IsSpelledOnceBy m h.spells g.field name = decodable_spelled h lawful name m g.place g.field decodes g.field_stands
    (g.spelling.0.group ∙ sym g.spelling.1.group) (g.spelling.0.resource ∙ sym g.spelling.1.resource) dated in
    let P : Spell → Type 0 = λ s. IsSpelling g.field name s × (s.since ≤ m) in
    let some : Any P h.spells = once.some in
    let stands : slice_get h.spells some.0 ≡ Some some.1 = any_stands P h.spells some in
    let place : some.0 ≡ g.spot = once.one some.0 g.spot some.1 g.spell stands g.spell_stands some.4.0 g.spelling in
    let same : some.1 ≡ g.spell = some_injective some.1 g.spell (sym stands ∙ ap (slice_get h.spells) place ∙ g.spell_stands) in
    subst (λ (s : Spell). s.since ≤ m) same some.4.1

pub kept_at : (h : Dated) → IsAccepted h → RowsAreKept h
kept_at h lawful = λ (is_on also_on : List ℕ → Bool) (name : GroupVersionResource) (m e : ℕ) (rows others : List FieldRow) (later : m ≤ e) (decodes : IsDecodable h.apis name m) (are : AreRowsAt h is_on name m rows) (also : AreRowsAt h also_on name e others). record {
  less = λ k d below.
      let row : FieldRow = get_or rows k d in
      let g : Given h m name row = given h m name row ((spelled_at h is_on name m rows are).each k d below) in
      let dated : g.field.since ≤ m = g.dated in
      let spelled : g.spell.since ≤ m = g.spelled in
      let made = made_at h also_on name e others also g.field g.spell (holds_field h m name row g) (holds_spell h m name row g) (omega arith) (omega arith) g.spelling in
      (made.1.0, made.0, made.1.1, made.1.2, one_but_on g.field g.spell row made.0 g.given made.2);
  exact = λ (row : FieldRow) (there : Contains others row).
      let g : Given h e name row = given_at h also_on name e others also row there in (
        λ (some : Any (λ f. IsThere name m f × (f.id ≡ row.id)) h.fields).
            let f : Field = some.1 in
            let is : IsThere name m f = some.4.0 in
            let group : f.group ≡ g.field.group = is.group ∙ g.spelling.1.group ∙ sym g.spelling.0.group in
            let resource : f.resource ≡ g.field.resource = is.resource ∙ g.spelling.1.resource ∙ sym g.spelling.0.resource in
            let id : f.id ≡ g.field.id = some.4.1 ∙ g.given.id in
            let stands : slice_get h.fields some.0 ≡ Some f = any_stands (λ f. IsThere name m f × (f.id ≡ row.id)) h.fields some in
            let same : f ≡ g.field = one_field h lawful some.0 g.place f g.field stands g.field_stands
            (record { group = sym group; resource = sym resource; id = sym id }) (record { group = group; resource = resource; id = id }) in
            let dated : g.field.since ≤ m = subst (λ (x : Field). x.since ≤ m) same is.dated in
            let made = made_at h is_on name m rows are g.field g.spell (holds_field h e name row g) (holds_spell h e name row g) dated (there_by h lawful name m e row decodes g dated) g.spelling in
            (made.1.0, made.0, made.1.1, made.1.2, one_but_on g.field g.spell made.0 row made.2 g.given),
        λ (some : Any (λ r. AreOneButOn r row) rows).
            let b : Given h m name some.1 = given_at h is_on name m rows are some.1 (some.0, some.2, some.3) in
            let is : IsThere name m b.field = record { group = b.spelling.0.group ∙ sym b.spelling.1.group; resource = b.spelling.0.resource ∙ sym b.spelling.1.resource; dated = b.dated } in
            let held = holds_field h m name some.1 b in
            (held.0, b.field, held.1, held.2, (is, sym b.given.id ∙ some.4.id)),
      );
}
