-- The rows that are made are those of the version.
use Rattle.std.proofs.Common.{ℕ, ◌≡◌, ◌<◌, ◌↔◌, List, [], ◌∷◌, ◌++◌, Bool, true, false, Option, Some, None, IfSome, cond, length, refl, sym, ap, subst, ◌∙◌, arith, inl, inr, Contains, map, Any, All, IsTrue, ◌-◌, Result, Ok, Err, IfOk}
use Rattle.std.specs.Prelude.{◌&&◌, slice_get, filter, find, option_map, option_copied}
use Rattle.std.specs.BTreeMap.{BTreeMap, get, values}
use Rattle.std.specs.Borrow.{Bor}
use Rattle.std.specs.Global.{Vec}
use Rattle.std.specs.Bool.{Decides, beq}
use Rattle.std.specs.Option.{option_eq}
use Rattle.std.specs.List.{list_any, cons_option, AllByRecursion}
use Rattle.std.specs.List.Sorted.{IsStrictlySortedBy}
use Rattle.std.specs.Ordering.{nat_cmp}
use Rattle.std.specs.Cmp.Lexicographic.{slice_cmp}
use Rattle.std.specs.Str.{bytes_eq}
use Rattle.std.proofs.lemmas.Bool.{cases_Bool, cond-true, cond-false, false≢true}
use Rattle.std.proofs.lemmas.Bool.Decides.{same_from_decides, Decides-and, Decides-or}
use Rattle.std.proofs.lemmas.Cmp.{nat_list_cmp_total}
use Rattle.std.proofs.lemmas.List.Elements.{All-nil, All-cons, Contains-append_left, Contains-append_right, Contains-append_cases, Contains-push, Contains-push_cases}
use Rattle.std.proofs.lemmas.List.Folds.{Any-from_list_any, list_any-from_Any}
use Rattle.std.proofs.lemmas.Map.Lookups.{exact_bytes}
use Rattle.std.proofs.lemmas.Map.Made.{Contains-from_values_of, Contains-values_of}
use Rattle.std.proofs.lemmas.Map.Views.{btree_map_get_iff}
use Rattle.std.proofs.lemmas.List.{map-append}
use Rattle.std.proofs.lemmas.Option.{slice_get_within, get_or_from_slice_get}
use Rattle.std.proofs.lemmas.Slice.Eq.{bytes_eq-Decides}
use Rattle.basis.specs.NameMap.{is_same_name}
use Rattle.basis.proofs.ElementLemmas.{Any-from, Any-weaker}
use Rattle.basis.proofs.FilterLemmas.{Contains-filter, Contains-from_filter, passes_from_filter}
use Rattle.basis.proofs.NameLemmas.{same_parts}
use Rattle.fields.specs.Order.{Rises, IsBelow}
use Rattle.fields.proofs.MapLemmas.{rises_before}
use Rattle.fields.proofs.RowLemmas.{no_rows}
use Rattle.fields.specs.Table.{IdsRise}
use Rattle.fields.specs.declared.field.Field.{Field}
use Rattle.fields.specs.declared.field.Spell.{Spell}
use Rattle.fields.specs.declared.table.FieldRow.{FieldRow}
use Rattle.gate_flags.specs.Values.{Gates, HasValue}
use Rattle.gate_flags.proofs.RowLemmas.{from_filter_map, to_filter_map, filter_map_rises}
use Rattle.lifecycle.specs.Entry.{GroupVersionResource}
use Rattle.listing.specs.Listing.{lent, lent_in}
use Rattle.listing.proofs.NameLemmas.{parts_same}
use Rattle.schemas.specs.Pairs.{IsOfField, IsOfVersion, IsSpelling}
use Rattle.schemas.specs.Rows.{IsSpelledAs, IsRow, AreRows}
use Rattle.row_index.specs.Made.{is_on, spelling_in, row_as, row_in, rows_in, AreApartById, RiseById, HoldsById}
use Rattle.row_index.specs.Once.{AreFieldsOnce, AreSpellsOnce}

-- ---- gates

any_decided : {X : Type 0} (name : X → List ℕ) (value : X → Bool) (key : List ℕ) (xs : List X) → Decides (list_any (λ x. bytes_eq (name x) key && value x) xs) (Any (λ x. (name x ≡ key) × (value x ≡ true)) xs)
any_decided {X} name value key xs =
    let p : X → Bool = λ x. bytes_eq (name x) key && value x in
    let each : (x : X) → Decides (p x) ((name x ≡ key) × (value x ≡ true)) = λ x. Decides-and (bytes_eq (name x) key) (value x) (bytes_eq-Decides (name x) key) ((λ e. e), (λ e. e)) in (
      λ t. Any-weaker (λ x. p x ≡ true) (λ x. (name x ≡ key) × (value x ≡ true)) xs (λ x. (each x).0) (Any-from_list_any p xs t),
      λ any. list_any-from_Any p xs (Any-weaker (λ x. (name x ≡ key) × (value x ≡ true)) (λ x. p x ≡ true) xs (λ x. (each x).1) any),
    )

pub gate_decided : (gates : Gates) (gate : List ℕ) → Decides (is_on gates (Some gate)) (HasValue gates gate true)
gate_decided gates gate = Decides-or (list_any (λ r. bytes_eq r.name gate && r.value) gates.rows) (list_any (λ r. bytes_eq r.name gate && r.value) gates.removed) (any_decided (λ r. r.name) (λ r. r.value) gate gates.rows) (any_decided (λ r. r.name) (λ r. r.value) gate gates.removed)

guard_decided : (gates : Gates) (guard : Option (List ℕ)) → Decides (is_on gates guard) (IfSome guard (λ gate. HasValue gates gate true))
guard_decided gates None = ((λ t. tt), (λ t. refl))
guard_decided gates (Some gate) = gate_decided gates gate

is_yes : (o : Option Bool) → Decides (option_eq beq o (Some true)) (o ≡ Some true)
is_yes None = ((λ t. absurd cc), (λ e. absurd cc))
is_yes (Some true) = ((λ t. refl), (λ e. refl))
is_yes (Some false) = ((λ t. absurd cc), (λ e. absurd cc))

-- what a look-up of the guard answers
pub guard_read : (gates : Gates) (guard : Option (List ℕ)) (gate bytes : List ℕ) (o : Option Bool) → guard ≡ Some gate → bytes ≡ gate → ((v : Bool) → o ≡ Some v ↔ HasValue gates bytes v) → option_eq beq o (Some true) ≡ is_on gates guard
guard_read gates guard gate bytes o is same says =
    let on : o ≡ Some true ↔ HasValue gates gate true = subst (λ k. o ≡ Some true ↔ HasValue gates k true) same (says true) in
    same_from_decides (option_eq beq o (Some true)) (is_on gates (Some gate)) ((λ t. on.0 ((is_yes o).0 t)), (λ has. (is_yes o).1 (on.1 has))) (gate_decided gates gate) ∙ ap (is_on gates) (sym is)

-- ---- entries of a list

contained : {X : Type 0} (P : X → Type 0) (xs : List X) → (any : Any P xs) → Contains xs any.1
contained P xs any = (any.0, any.2, any.3)

one_in : {X : Type 0} (y x : X) → Contains (y ∷ []) x → y ≡ x
one_in y x h = elim (Contains-push_cases [] y x h) [ inl none ↦ absurd (let below : none.0 < 0 = none.1 in omega arith) | inr e ↦ e ]

at_head : {X : Type 0} (x : X) (xs : List X) → Contains (x ∷ xs) x
at_head x xs = Contains-append_left (x ∷ []) xs x (Contains-push [] x)

abbrev Found : {X : Type 0} → (X → Bool) → List X → Option X → Type 0
Found p xs o = IfSome o (λ y. Contains xs y × (p y ≡ true))

found_step : {X : Type 0} (p : X → Bool) (x : X) (xs : List X) (b : Bool) (o : Option X) → p x ≡ b → Found p xs o → Found p (x ∷ xs) (cond b (Some x) o)
found_step p x xs true o t h = (at_head x xs, t)
found_step p x xs false None t h = tt
found_step p x xs false (Some y) t h = (Contains-append_right (x ∷ []) xs y h.0, h.1)

-- what is found is among all, and passes
found : {X : Type 0} (p : X → Bool) (xs : List X) → Found p xs (find p xs)
found p [] = tt
found p (x ∷ xs) = found_step p x xs (p x) (find p xs) refl (found p xs)

-- where one passes, one is found
finds : {X : Type 0} (p : X → Bool) (xs : List X) (x : X) → Contains xs x → p x ≡ true → (y : X) × (find p xs ≡ Some y)
finds p [] x h t = absurd (let below : h.0 < 0 = h.1 in omega arith)
finds p (y ∷ ys) x h t = elim (cases_Bool (p y)) [
  | inl passes ↦ (y, cond-true (p y) (Some y) (find p ys) passes)
  | inr fails ↦ elim (Contains-append_cases (y ∷ []) ys x h) [
    | inl here ↦ absurd (false≢true (sym fails ∙ ap p (one_in y x here) ∙ t))
    | inr later ↦ let rest = finds p ys x later t in (rest.0, cond-false (p y) (Some y) (find p ys) fails ∙ rest.1)
  ]
]

-- ---- one row

made_from : (on : Bool) (f : Field) (o : Option Spell) (row : FieldRow) → option_map (row_as on f) o ≡ Some row → (s : Spell) × (o ≡ Some s) × (row_as on f s ≡ row)
made_from on f None row e = absurd cc
made_from on f (Some s) row e = (s, refl, cc)

row_named : (gates : Gates) (spells : List Spell) (f : Field) (row : FieldRow) → row_in gates spells f ≡ Some row → row.id ≡ f.id
row_named gates spells f row e = let made = made_from (is_on gates f.gate) f (spelling_in spells f) row e in ap (λ r. r.id) (sym made.2)

abbrev IsGuardOn : Gates → Field → Type 0
IsGuardOn gates f = IfSome f.gate (λ gate. HasValue gates gate true)

spelled_as : (gates : Gates) (f : Field) (s : Spell) (row : FieldRow) → row_as (is_on gates f.gate) f s ≡ row → IsSpelledAs f s row × (IsTrue row.on ↔ IsGuardOn gates f)
spelled_as gates f s row e = subst (λ r. IsSpelledAs f s r × (IsTrue r.on ↔ IsGuardOn gates f)) e (record { id = refl; ty = refl; required = refl; path = refl; form = refl; default = refl }, guard_decided gates f.gate)

row_is : (gates : Gates) (f : Field) (s : Spell) (row : FieldRow) → IsSpelledAs f s row → (IsTrue row.on ↔ IsGuardOn gates f) → row_as (is_on gates f.gate) f s ≡ row
row_is gates f s row spelled on =
    let same : row.on ≡ is_on gates f.gate = same_from_decides row.on (is_on gates f.gate) on (guard_decided gates f.gate) in
    sym (λ i. record { id = spelled.id i; ty = spelled.ty i; required = spelled.required i; on = same i; path = spelled.path i; form = spelled.form i; default = spelled.default i })

-- what is lent of a list that was found
pub listed_is : {E : Type 0} (o : Option (Bor (Vec (Bor E)))) (v : Bor (Vec (Bor E))) (items : List (Bor E)) (entries : List E) → o ≡ Some v → items ≡ v.now.items → lent_in o ≡ entries → lent items ≡ entries
listed_is o v items entries is same at = ap lent same ∙ sym (ap lent_in is) ∙ at

-- what is so of a value that there is
pub on_value : {T E : Type 0} (r : Result T E) (P Q : T → Type 0) → ((v : T) → P v → Q v) → IfOk r P → IfOk r Q
on_value (Ok v) P Q f h = f v h
on_value (Err e) P Q f h = h

-- ---- rows in order

ids_rise : (gates : Gates) (spells : List Spell) (fields : List (Bor Field)) → RiseById fields → IdsRise (rows_in gates spells fields)
ids_rise gates spells fields rise = filter_map_rises (slice_cmp nat_cmp) (λ b. row_in gates spells b.now) (λ r. r.id) (λ b. b.now.id) (λ b r e. row_named gates spells b.now r e) fields rise

below_each : (id : List ℕ) (rows : List FieldRow) → AllByRecursion (λ t. IsBelow t id) (map (λ r. r.id) rows) → All (λ r. IsBelow r.id id) rows
below_each id [] h = All-nil (λ r. IsBelow r.id id)
below_each id (r ∷ rows) h = All-cons (λ r. IsBelow r.id id) r rows h.0 (below_each id rows h.1)

-- the next row is above the last one
pub below_next : (gates : Gates) (spells : List Spell) (rows : List FieldRow) (fields left next : List (Bor Field)) (b : Bor Field) (o : Option FieldRow) (row last : FieldRow) → RiseById fields → rows ++ rows_in gates spells left ≡ rows_in gates spells fields
    → left ≡ b ∷ next → o ≡ row_in gates spells b.now → o ≡ Some row → slice_get rows (length rows - 1) ≡ Some last → IsBelow last.id row.id
below_next gates spells rows fields left next b o row last rise made one is some at =
    let step : rows_in gates spells left ≡ row ∷ rows_in gates spells next = ap (rows_in gates spells) one ∙ ap (λ (r : Option FieldRow). cons_option r (rows_in gates spells next)) (sym is ∙ some) in
    let whole : rows_in gates spells fields ≡ rows ++ row ∷ rows_in gates spells next = sym made ∙ ap (λ rest. rows ++ rest) step in
    let ids : map (λ r. r.id) (rows_in gates spells fields) ≡ map (λ r. r.id) rows ++ row.id ∷ map (λ r. r.id) (rows_in gates spells next) = ap (map (λ r. r.id)) whole ∙ map-append (λ r. r.id) rows (row ∷ rows_in gates spells next) in
    let below = below_each row.id rows (rises_before (map (λ r. r.id) rows) (map (λ r. r.id) (rows_in gates spells next)) row.id (subst Rises ids (ids_rise gates spells fields rise))) in
    subst (λ r. IsBelow r.id row.id) (get_or_from_slice_get rows (length rows - 1) last last at) (below (length rows - 1) last (slice_get_within rows (length rows - 1) last at))

-- ---- the fields of a resource, by id

keys_are : (es : List (List ℕ × Bor Field)) → ((key : List ℕ) (b : Bor Field) → Contains es (key, b) → b.now.id ≡ key) → map (λ (p : List ℕ × Bor Field). p.0) es ≡ map (λ (b : Bor Field). b.now.id) (map (λ (p : List ℕ × Bor Field). p.1) es)
keys_are [] h = refl
keys_are (p ∷ ps) h =
    ap (λ n. n ∷ map (λ (q : List ℕ × Bor Field). q.0) ps) (sym (h p.0 p.1 (at_head p ps)))
    ∙ ap (λ ns. p.1.now.id ∷ ns) (keys_are ps (λ key b c. h key b (Contains-append_right (p ∷ []) ps (key, b) c)))

module _ (fields : List Field) (m : BTreeMap (List ℕ) (Bor Field)) (held : HoldsById fields m) where
  named_at : (key : List ℕ) (b : Bor Field) → Contains m.entries (key, b) → (b.now.id ≡ key) × Contains fields b.now
  named_at key b h = subst (λ o. IfSome o (λ (x : Bor Field). (x.now.id ≡ key) × Contains fields x.now)) ((btree_map_get_iff nat_list_cmp_total exact_bytes m held.order key b).1 h) (held.named key)

  pub rise_by_id : RiseById (values m)
  rise_by_id = subst (IsStrictlySortedBy (slice_cmp nat_cmp)) (keys_are m.entries (λ key b h. (named_at key b h).0)) held.order

  held_from : (b : Bor Field) → Contains (values m) b → Contains fields b.now
  held_from b h = let entry = Contains-from_values_of m.entries b h in (named_at entry.0 b entry.1).1

  held_as : (f : Field) (o : Option (Bor Field)) → get (slice_cmp nat_cmp) m f.id ≡ o → option_copied o ≡ Some f → (b : Bor Field) × Contains (values m) b × (b.now ≡ f)
  held_as f None got is = absurd cc
  held_as f (Some b) got is = (b, Contains-values_of m.entries f.id b ((btree_map_get_iff nat_list_cmp_total exact_bytes m held.order f.id b).0 got), cc)

  held_to : (f : Field) → Contains fields f → (b : Bor Field) × Contains (values m) b × (b.now ≡ f)
  held_to f h = held_as f (get (slice_cmp nat_cmp) m f.id) refl (held.each f h)

-- ---- the rows of a version

module _ (fields : List Field) (spells : List Spell) (name : GroupVersionResource) where
  abbrev pub is_of_resource : Field → Bool
  is_of_resource x = is_same_name x.group x.resource [] name.group name.resource []

  abbrev pub is_of_version : Spell → Bool
  is_of_version s = is_same_name s.group s.version s.resource name.group name.version name.resource

  field_of : (f : Field) → Contains (filter is_of_resource fields) f → Contains fields f × (f.group ≡ name.group) × (f.resource ≡ name.resource)
  field_of f h = let parts = parts_same f.group f.resource [] name.group name.resource [] (passes_from_filter is_of_resource fields f h) in (Contains-from_filter is_of_resource fields f h, parts.0, parts.1)

  spell_of : (s : Spell) → Contains (filter is_of_version spells) s → Contains spells s × IsOfVersion name s
  spell_of s h = let parts = parts_same s.group s.version s.resource name.group name.version name.resource (passes_from_filter is_of_version spells s h) in (Contains-from_filter is_of_version spells s h, record { group = sym parts.0; version = sym parts.1; resource = sym parts.2 })

  -- in the list of the resource a field is known by its id
  pub apart_by_id : AreFieldsOnce fields → AreApartById (filter is_of_resource fields)
  apart_by_id once = λ (f g : Field) in_f in_g same.
      let a = field_of f in_f in
      let b = field_of g in_g in
      once f g a.0 b.0 (record { group = b.1 ∙ sym a.1; resource = b.2 ∙ sym a.2; id = sym same })

  -- a field and a spelling of it are in the lists of the resource and of the version
  in_lists : (f : Field) (s : Spell) → Contains fields f → Contains spells s → IsSpelling f name s → Contains (filter is_of_resource fields) f × Contains (filter is_of_version spells) s
  in_lists f s in_f in_s spelling = (
    Contains-filter is_of_resource fields f in_f (same_parts f.group f.resource [] name.group name.resource [] (spelling.0.group ∙ sym spelling.1.group) (spelling.0.resource ∙ sym spelling.1.resource) refl),
    Contains-filter is_of_version spells s in_s (same_parts s.group s.version s.resource name.group name.version name.resource (sym spelling.1.group) (sym spelling.1.version) (sym spelling.1.resource)),
  )

  module _ (gates : Gates) where
    abbrev IsOn : List ℕ → Type 0
    IsOn gate = HasValue gates gate true

    abbrev Gives : FieldRow → Field → Spell → Type 0
    Gives row f s = IsSpelling f name s × IsSpelledAs f s row × (IsTrue row.on ↔ IfSome f.gate IsOn)

    row_given : (row : FieldRow) → IsRow IsOn fields spells name row → (f : Field) × (s : Spell) × Contains fields f × Contains spells s × Gives row f s
    row_given row any = (any.1, any.4.1, contained (λ f. Any (Gives row f) spells) fields any, contained (Gives row any.1) spells any.4, any.4.4)

    none_there : (xs : List FieldRow) → xs ≡ [] → ((row : FieldRow) → ¬ IsRow IsOn fields spells name row) → AreRows IsOn fields spells name xs
    none_there xs none no_row = subst (AreRows IsOn fields spells name) (sym none) (record {
      order = no_rows;
      exact = λ row. (λ h. absurd (let below : h.0 < 0 = h.1 in omega arith), λ is. absurd (no_row row is));
    })

    -- a resource without fields has no rows
    pub no_fields : (xs : List FieldRow) → [] ≡ filter is_of_resource fields → xs ≡ [] → AreRows IsOn fields spells name xs
    no_fields xs empty none = none_there xs none (λ row is.
        let given = row_given row is in
        let there = subst (λ l. Contains l given.0) (sym empty) (in_lists given.0 given.1 given.2 given.3 given.4.0).0 in
        absurd (let below : there.0 < 0 = there.1 in omega arith))

    -- nor has a version without spellings
    pub no_spells : (xs : List FieldRow) → [] ≡ filter is_of_version spells → xs ≡ [] → AreRows IsOn fields spells name xs
    no_spells xs empty none = none_there xs none (λ row is.
        let given = row_given row is in
        let there = subst (λ l. Contains l given.1) (sym empty) (in_lists given.0 given.1 given.2 given.3 given.4.0).1 in
        absurd (let below : there.0 < 0 = there.1 in omega arith))

    module _ (m : BTreeMap (List ℕ) (Bor Field)) (held : HoldsById (filter is_of_resource fields) m) where
      abbrev made : List FieldRow
      made = rows_in gates (filter is_of_version spells) (values m)

      row_from : (row : FieldRow) → Contains made row → IsRow IsOn fields spells name row
      row_from row h =
          let source = from_filter_map (λ (b : Bor Field). row_in gates (filter is_of_version spells) b.now) (values m) row h in
          let f : Field = source.0.now in
          let is_field = field_of f (held_from (filter is_of_resource fields) m held source.0 source.1) in
          let spelled = made_from (is_on gates f.gate) f (spelling_in (filter is_of_version spells) f) row source.2 in
          let s : Spell = spelled.0 in
          let there : Contains (filter is_of_version spells) s × (bytes_eq s.field f.id ≡ true) = subst (λ o. IfSome o (λ t. Contains (filter is_of_version spells) t × (bytes_eq t.field f.id ≡ true))) spelled.1 (found (λ t. bytes_eq t.field f.id) (filter is_of_version spells)) in
          let is_spell = spell_of s there.0 in
          let of : IsOfField f s = record { group = is_field.1 ∙ is_spell.1.group; resource = is_field.2 ∙ is_spell.1.resource; id = sym ((bytes_eq-Decides s.field f.id).0 there.1) } in
          let as_spelled = spelled_as gates f s row spelled.2 in
          Any-from (λ g. Any (Gives row g) spells) fields f is_field.0 (Any-from (Gives row f) spells s is_spell.0 ((of, is_spell.1), as_spelled.0, as_spelled.1))

      row_to : AreSpellsOnce spells → (row : FieldRow) → IsRow IsOn fields spells name row → Contains made row
      row_to once row is =
          let given = row_given row is in
          let f : Field = given.0 in
          let s : Spell = given.1 in
          let lists = in_lists f s given.2 given.3 given.4.0 in
          let b = held_to (filter is_of_resource fields) m held f lists.0 in
          let p : Spell → Bool = λ t. bytes_eq t.field f.id in
          let first = finds p (filter is_of_version spells) s lists.1 ((bytes_eq-Decides s.field f.id).1 (sym given.4.0.0.id)) in
          let t : Spell = first.0 in
          let there : Contains (filter is_of_version spells) t × (p t ≡ true) = subst (λ o. IfSome o (λ u. Contains (filter is_of_version spells) u × (p u ≡ true))) first.1 (found p (filter is_of_version spells)) in
          let is_spell = spell_of t there.0 in
          let same : t ≡ s = once t s is_spell.0 given.3 (record { group = sym is_spell.1.group ∙ given.4.0.1.group; version = sym is_spell.1.version ∙ given.4.0.1.version; resource = sym is_spell.1.resource ∙ given.4.0.1.resource }, (bytes_eq-Decides t.field f.id).0 there.1 ∙ given.4.0.0.id) in
          let here : row_in gates (filter is_of_version spells) f ≡ Some row = ap (option_map (row_as (is_on gates f.gate) f)) (first.1 ∙ ap Some same) ∙ ap Some (row_is gates f s row given.4.1 given.4.2) in
          to_filter_map (λ (c : Bor Field). row_in gates (filter is_of_version spells) c.now) (values m) b.0 row b.1 (ap (row_in gates (filter is_of_version spells)) b.2 ∙ here)

      pub rows_are : AreSpellsOnce spells → (rows : List FieldRow) → rows ≡ made → AreRows IsOn fields spells name rows
      rows_are once rows is = subst (AreRows IsOn fields spells name) (sym is) (record {
        order = ids_rise gates (filter is_of_version spells) (values m) (rise_by_id (filter is_of_resource fields) m held);
        exact = λ row. (row_from row, row_to once row);
      })
