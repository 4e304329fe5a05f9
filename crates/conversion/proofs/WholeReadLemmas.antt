-- A whole object is one, is read as what it shows, and isn't deep.
use Rattle.std.proofs.Common.{◌≡◌, ◌≢◌, inl, inr, ℕ, ◌<◌, ◌≤◌, Bool, true, false, List, [], ◌∷◌, ◌++◌, length, get_or, Option, Some, None, IfSome, refl, sym, ◌∙◌, ap, subst, bytes_eq, arith}
use Rattle.std.specs.List.{slice_get}
use Rattle.std.proofs.lemmas.Slice.Eq.{bytes_eq-Decides}
use Rattle.fields.specs.Fits.{Fits}
use Rattle.fields.specs.Map.{value_at}
use Rattle.fields.specs.Table.{IsFree, IsLawfulRow, AreLawful}
use Rattle.fields.specs.declared.map.FieldPair.{FieldPair}
use Rattle.fields.specs.declared.table.FieldRow.{FieldRow}
use Rattle.fields.specs.declared.table.VersionTable.{VersionTable}
use Rattle.fields.specs.declared.value.FieldValue.{FieldValue}
use Rattle.serde_json.specs.Data.{Data, string, object, depth, members_depth}
use Rattle.serde_json.specs.Find.{get, get_member}
use Rattle.serde_json.specs.Read.{max_depth}
use Rattle.conversion.specs.Laws.{WholeRoundTrips}
use Rattle.conversion.specs.Reading.{IsHeld, IsRead, Reads}
use Rattle.conversion.specs.Showing.{Shows}
use Rattle.conversion.specs.Trees.{Names, Stands, IsAbsent}
use Rattle.conversion.specs.Whole.{api_version, kind, metadata, IsWhole}
use Rattle.conversion.specs.declared.mode.Mode.TheVariants.{Stored}
use Rattle.conversion.proofs.DepthLemmas.{member_depth, members_within, shown_depth}
use Rattle.conversion.proofs.ExistLemmas.{some_shown}
use Rattle.conversion.proofs.ObjectLemmas.{object_is, same_members}
use Rattle.conversion.proofs.RoundLemmas.{reads_back}
use Rattle.conversion.proofs.SameLemmas.{shows_as_one}
use Rattle.conversion.proofs.TreeLemmas.{some_one}
use Rattle.conversion.proofs.WholeLemmas.{whole_is}
use Rattle.conversion.specs.Code.{members_in, named_members}

not_named : (name other : List ℕ) → bytes_eq name other ≡ false → name ≢ other
not_named name other e same = let s = (bytes_eq-Decides name other).1 same in cc

-- ---- one whole object

same_get_at : (table : VersionTable) (version : List ℕ) (held : List FieldPair) (own : Option Data) (a b : Data) (h : IsWhole table version held own a) (g : IsWhole table version held own b) (name : List ℕ)
    → (p q r : Bool) → bytes_eq name api_version ≡ p → bytes_eq name kind ≡ q → bytes_eq name metadata ≡ r → get name a ≡ get name b
same_get_at table version held own a b h g name true q r is_version is_kind is_metadata =
    subst (λ n. get n a ≡ get n b) (sym ((bytes_eq-Decides name api_version).0 is_version)) (h.versioned ∙ sym g.versioned)
same_get_at table version held own a b h g name false true r is_version is_kind is_metadata =
    subst (λ n. get n a ≡ get n b) (sym ((bytes_eq-Decides name kind).0 is_kind)) (h.of_kind ∙ sym g.of_kind)
same_get_at table version held own a b h g name false false true is_version is_kind is_metadata =
    subst (λ n. get n a ≡ get n b) (sym ((bytes_eq-Decides name metadata).0 is_metadata)) (h.described ∙ sym g.described)
same_get_at table version held own a b h g name false false false is_version is_kind is_metadata =
    let not : (other : List ℕ) → bytes_eq name other ≡ false → name ≢ other = λ other e same. absurd (let s : true ≡ false = sym ((bytes_eq-Decides name other).1 same) ∙ e in cc) in
    h.others name (not api_version is_version) (not kind is_kind) (not metadata is_metadata)
    ∙ ap (get name) (shows_as_one table.rows held h.fields g.fields h.shows g.shows)
    ∙ sym (g.others name (not api_version is_version) (not kind is_kind) (not metadata is_metadata))

pub one_whole : (table : VersionTable) (version : List ℕ) (held : List FieldPair) (own : Option Data) (a b : Data) → IsWhole table version held own a → IsWhole table version held own b → a ≡ b
one_whole table version held own a b h g =
    let same : (name : List ℕ) → get_member name h.members ≡ get_member name g.members = λ name.
    ap (get name) (sym h.object) ∙ same_get_at table version held own a b h g name (bytes_eq name api_version) (bytes_eq name kind) (bytes_eq name metadata) refl refl refl ∙ ap (get name) g.object in
    h.object ∙ ap object (same_members h.members g.members h.order g.order same) ∙ sym g.object

-- ---- it is read as what it shows

stands_alike : (a b : Data) (name : List ℕ) (rest : Names) (there : Data) → get name a ≡ get name b → Stands a (name ∷ rest) there → Stands b (name ∷ rest) there
stands_alike a b name rest there same h = (h.0, sym same ∙ h.1, h.2)

absent_at : (a b : Data) (path : Names) (name : List ℕ) (rest : Names) → path ≡ name ∷ rest → get name a ≡ get name b → (h : IsAbsent a path) → (front : Names) → h.front ≡ front → IsAbsent b path
absent_at a b path name rest is same h [] at =
    let parts : path ≡ h.name ∷ h.rest = h.parts ∙ ap (λ f. f ++ h.name ∷ h.rest) at in
    let first : h.name ≡ name = cc in
    let within : a ≡ h.within = subst (λ f. Stands a f h.within) at h.stands in
    let found : get h.name h.within ≡ get h.name b = ap (get h.name) (sym within) ∙ subst (λ n. get n a ≡ get n b) (sym first) same in
    record {
      front = [];
      name = h.name;
      rest = h.rest;
      parts = parts;
      within = b;
      stands = refl;
      object = inl refl;
      missing = elim h.missing [ inl none ↦ inl (sym found ∙ none) | inr is_null ↦ inr (sym found ∙ is_null) ];
    }
absent_at a b path name rest is same h (f ∷ front) at =
    let parts : path ≡ f ∷ (front ++ h.name ∷ h.rest) = h.parts ∙ ap (λ g. g ++ h.name ∷ h.rest) at in
    let first : f ≡ name = cc in
    let stands : Stands a (f ∷ front) h.within = subst (λ g. Stands a g h.within) at h.stands in
    record {
      front = f ∷ front;
      name = h.name;
      rest = h.rest;
      parts = parts;
      within = h.within;
      stands = stands_alike a b f front h.within (subst (λ n. get n a ≡ get n b) (sym first) same) stands;
      object = elim h.object [ inl none ↦ absurd (let e : f ∷ front ≡ [] = sym at ∙ none in cc) | inr is_object ↦ inr is_object ];
      missing = h.missing;
    }

held_alike : (a b : Data) (row : FieldRow) (v : FieldValue) (name : List ℕ) (rest : Names) → row.path ≡ name ∷ rest → get name a ≡ get name b → IsHeld a row v → IsHeld b row v
held_alike a b row v name rest is same h = record {
  json = h.json;
  stands = subst (λ p. Stands b p h.json) (sym is) (stands_alike a b name rest h.json same (subst (λ p. Stands a p h.json) is h.stands));
  spelled = h.spelled;
}

read_alike : (a b : Data) (row : FieldRow) (o : Option FieldValue) (name : List ℕ) (rest : Names) → row.path ≡ name ∷ rest → get name a ≡ get name b → IsRead Stored a row o → IsRead Stored b row o
read_alike a b row o name rest is same (inl h) = inl (h.0, h.1, held_alike a b row h.0 name rest is same h.2)
read_alike a b row o name rest is same (inr h) = inr (absent_at a b row.path name rest is same h.0 h.0.front refl, h.1)

row_read : (a b : Data) (row : FieldRow) (o : Option FieldValue) → ((name : List ℕ) → IsFree name → get name a ≡ get name b) → IsLawfulRow row → IsRead Stored a row o → IsRead Stored b row o
row_read a b row o same lawful h = by row.path refl lawful.path.0.some lawful.path.1
  where
    by : (path : Names) → row.path ≡ path → 0 < length path → IfSome (slice_get path 0) IsFree → IsRead Stored b row o
    by [] is some free = absurd (omega arith)
    by (name ∷ rest) is some free = read_alike a b row o name rest is (same name free) h

pub whole_reads : (table : VersionTable) (version : List ℕ) (held : List FieldPair) (own : Option Data) (tree : Data) → AreLawful table.rows → Fits table.rows held → IsWhole table version held own tree → Reads Stored table.rows tree held
whole_reads table version held own tree lawful fits h =
    let shown = reads_back table.rows held h.fields lawful fits h.shows in
    let same : (name : List ℕ) → IsFree name → get name h.fields ≡ get name tree = λ name free. sym (h.others name free.not_version free.not_kind free.not_metadata) in
    record {
      map = shown.map;
      each = λ k d below. row_read h.fields tree (get_or table.rows k d) (value_at held (get_or table.rows k d).id) same (lawful.each k d below) (shown.each k d below);
      only = shown.only;
    }

-- ---- it isn't deep

text_depth : (o : Option Data) (text : List ℕ) (inner : Data) → o ≡ Some (string text) → o ≡ Some inner → depth inner ≤ 126
text_depth o text inner h g = let same : string text ≡ inner = some_one o (string text) inner h g in let e : 0 ≡ depth inner = ap depth same in omega arith

own_depth : (own : Option Data) (inner : Data) → IfSome own (λ json. depth json < max_depth) → own ≡ Some inner → depth inner ≤ 126
own_depth None inner h e = absurd cc
own_depth (Some json) inner h e = let same : json ≡ inner = cc in let d : depth json ≡ depth inner = ap depth same in omega arith

inner_depth : (fields inner : Data) (name : List ℕ) → depth fields ≤ 9 → get name fields ≡ Some inner → depth inner ≤ 126
inner_depth fields inner name h found = by fields h found
  where
    by : (t : Data) → depth t ≤ 9 → get name t ≡ Some inner → depth inner ≤ 126
    by (object ms) h found = let at = member_depth name ms inner found in omega arith
    by _ h found = absurd cc

member_within : (table : VersionTable) (version : List ℕ) (held : List FieldPair) (own : Option Data) (tree : Data) → AreLawful table.rows → IfSome own (λ json. depth json < max_depth) → IsWhole table version held own tree
    → (name : List ℕ) (inner : Data) → get name tree ≡ Some inner → (p q r : Bool) → bytes_eq name api_version ≡ p → bytes_eq name kind ≡ q → bytes_eq name metadata ≡ r → depth inner ≤ 126
member_within table version held own tree lawful small h name inner found true q r is_version is_kind is_metadata =
    text_depth (get api_version tree) version inner h.versioned (subst (λ n. get n tree ≡ Some inner) ((bytes_eq-Decides name api_version).0 is_version) found)
member_within table version held own tree lawful small h name inner found false true r is_version is_kind is_metadata =
    text_depth (get kind tree) table.kind inner h.of_kind (subst (λ n. get n tree ≡ Some inner) ((bytes_eq-Decides name kind).0 is_kind) found)
member_within table version held own tree lawful small h name inner found false false true is_version is_kind is_metadata =
    own_depth own inner small (sym h.described ∙ subst (λ n. get n tree ≡ Some inner) ((bytes_eq-Decides name metadata).0 is_metadata) found)
member_within table version held own tree lawful small h name inner found false false false is_version is_kind is_metadata =
    inner_depth h.fields inner name (shown_depth table.rows held h.fields lawful h.shows)
    (sym (h.others name (not_named name api_version is_version) (not_named name kind is_kind) (not_named name metadata is_metadata)) ∙ found)

pub whole_depth : (table : VersionTable) (version : List ℕ) (held : List FieldPair) (own : Option Data) (tree : Data) → AreLawful table.rows → IfSome own (λ json. depth json < max_depth) → IsWhole table version held own tree → depth tree ≤ max_depth
whole_depth table version held own tree lawful small h =
    let inside : members_depth h.members ≤ 126 = members_within h.members 126 h.order (λ name inner found.
    member_within table version held own tree lawful small h name inner (ap (get name) h.object ∙ found) (bytes_eq name api_version) (bytes_eq name kind) (bytes_eq name metadata) refl refl refl) in
    let is : depth tree ≡ depth (object h.members) = ap depth h.object in
    omega arith

some_whole : (table : VersionTable) (version : List ℕ) (held : List FieldPair) (own : Option Data) → AreLawful table.rows → Fits table.rows held → (tree : Data) × IsWhole table version held own tree
some_whole table version held own lawful fits =
    let fields = some_shown table.rows held lawful fits in
    let ms = members_in (Some fields.0) in
    (object (named_members table version own ms), whole_is table version held own fields.0 ms lawful fields.1 (object_is fields.0 fields.1.object))

pub whole_round : (table : VersionTable) → AreLawful table.rows → WholeRoundTrips table
whole_round table lawful = record {
  shown = λ version held own fits. some_whole table version held own lawful fits;
  once = λ version held own a b h g. one_whole table version held own a b h g;
  back = λ version held own tree fits h. whole_reads table version held own tree lawful fits h;
  shallow = λ version held own tree small h. whole_depth table version held own tree lawful small h;
}
