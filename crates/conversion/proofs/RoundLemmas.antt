-- What is shown reads again as the same map.
use Rattle.std.proofs.Common.{◌≡◌, ◌≢◌, ◌⊎◌, inl, inr, ℕ, ◌<◌, List, [], ◌∷◌, ◌++◌, length, get_or, Option, Some, None, IfSome, IsSome, refl, sym, ◌∙◌, ap, subst, arith}
use Rattle.std.specs.List.{AllPairs}
use Rattle.std.proofs.lemmas.Bool.{cases_lt}
use Rattle.std.proofs.lemmas.List.{get_or_default}
use Rattle.fields.specs.Fits.{Fits}
use Rattle.fields.specs.Map.{value_at}
use Rattle.fields.specs.Table.{LeadsThrough, AreApart, AreLawful}
use Rattle.fields.specs.declared.map.FieldPair.{FieldPair}
use Rattle.fields.specs.declared.table.FieldRow.{FieldRow}
use Rattle.fields.specs.declared.value.FieldValue.{FieldValue}
use Rattle.serde_json.specs.Data.{Data}
use Rattle.serde_json.specs.Find.{get}
use Rattle.conversion.specs.Trees.{Names, Stands, IsObject, IsAbsent}
use Rattle.conversion.specs.Reading.{IsHeld, IsRead, Reads}
use Rattle.conversion.specs.Showing.{Shows}
use Rattle.conversion.specs.declared.mode.Mode.TheVariants.{Stored}
use Rattle.conversion.proofs.TreeLemmas.{stands_one, stands_split, object_from_get, stands_or_ends, no_last}

-- neither path leads through the other
abbrev pub ArePartedPaths : Names → Names → Type 0
ArePartedPaths p q = ¬ LeadsThrough p q × ¬ LeadsThrough q p

same_or_apart : (rows : List FieldRow) (i j : ℕ) (d : FieldRow) → AllPairs (λ one other. AreApart one.path other.path) rows → i < length rows → j < length rows
    → (i ≡ j) ⊎ ArePartedPaths (get_or rows i d).path (get_or rows j d).path
same_or_apart rows i j d h a b = elim (cases_lt i j) [
  | inl lt ↦ let r = h i j d lt b in inr (r.not_through, r.not_within)
  | inr ge ↦ elim (cases_lt j i) [
    | inl lt ↦ let r = h j i d lt a in inr (r.not_within, r.not_through)
    | inr le ↦ inl (omega arith)
  ]
]

none_not_some : {X : Type 0} (o p : Option X) → o ≡ p → o ≡ None → IsSome p → ⊥
none_not_some o None e h k = cc
none_not_some o (Some x) e h k = absurd cc

-- a row whose field isn't held has a path apart from that of each held one
no_way : (rows : List FieldRow) (held : List FieldPair) (i : ℕ) (d : FieldRow) → AllPairs (λ one other. AreApart one.path other.path) rows → i < length rows → value_at held (get_or rows i d).id ≡ None
    → (k : ℕ) (x : FieldRow) → k < length rows → get_or rows k x ≡ x → IsSome (value_at held x.id) → ArePartedPaths (get_or rows i d).path x.path
no_way rows held i d apart below none k x within is some =
    let there : get_or rows k d ≡ x = get_or_default rows k d x within ∙ is in
    elim (same_or_apart rows i k d apart below within) [
      | inl same ↦
          let row : get_or rows i d ≡ x = ap (λ n. get_or rows n d) same ∙ there in
          absurd (none_not_some (value_at held (get_or rows i d).id) (value_at held x.id) (ap (λ (r : FieldRow). value_at held r.id) row) none some)
      | inr parted ↦ subst (λ (r : FieldRow). ArePartedPaths (get_or rows i d).path r.path) there parted
    ]

held_stands : (tree : Data) (row : FieldRow) (o : Option FieldValue) → IfSome o (IsHeld tree row) → IsSome o → (json : Data) × Stands tree row.path json
held_stands tree row None h some = absurd cc
held_stands tree row (Some v) h some = (h.json, h.stands)

-- where the path of an absent field ends, there is an object
object_at_end : (rows : List FieldRow) (held : List FieldPair) (tree : Data) → Shows rows held tree → (i : ℕ) (d : FieldRow) → AllPairs (λ one other. AreApart one.path other.path) rows → i < length rows
    → value_at held (get_or rows i d).id ≡ None → (front : Names) (name : List ℕ) (rest : Names) (within : Data) → (get_or rows i d).path ≡ front ++ name ∷ rest → Stands tree front within
    → (k : ℕ) (x : FieldRow) → k < length rows → get_or rows k x ≡ x → IsSome (value_at held x.id) → LeadsThrough x.path front → IsObject within
object_at_end rows held tree shows i d apart below none front name rest within parts stands k x inside is some through =
    let parted = no_way rows held i d apart below none k x inside is some in
    let at_x = held_stands tree x (value_at held x.id) (subst (λ (r : FieldRow). IfSome (value_at held r.id) (IsHeld tree r)) is (shows.each k x inside)) some in
    by through.0 through.1 parted.0 at_x.0 at_x.1
  where
    by : (more : Names) → x.path ≡ front ++ more → ¬ LeadsThrough (get_or rows i d).path x.path → (json : Data) → Stands tree x.path json → IsObject within
    by [] e not_through json at = absurd (not_through (name ∷ rest, parts ∙ ap (λ p. p ++ name ∷ rest) (sym (e ∙ no_last front))))
    by (n ∷ more) e not_through json at =
        let r = stands_split tree front (n ∷ more) json (subst (λ p. Stands tree p json) e at) in
        subst IsObject (stands_one tree front r.0 within r.1 stands) (object_from_get n r.0 r.2.0 r.2.1)

ends_absent : (rows : List FieldRow) (held : List FieldPair) (tree : Data) → Shows rows held tree → (i : ℕ) (d : FieldRow) → AllPairs (λ one other. AreApart one.path other.path) rows → i < length rows
    → value_at held (get_or rows i d).id ≡ None → (front : Names) (name : List ℕ) (rest : Names) (within : Data) → (get_or rows i d).path ≡ front ++ name ∷ rest → Stands tree front within → get name within ≡ None
    → IsAbsent tree (get_or rows i d).path
ends_absent rows held tree shows i d apart below none [] name rest within parts stands missing = record { front = []; name = name; rest = rest; parts = parts; within = within; stands = stands; object = inl refl; missing = inl missing }
ends_absent rows held tree shows i d apart below none (f ∷ front) name rest within parts stands missing =
    let way = shows.least (f ∷ front) within (λ e. cc) stands in
    record {
      front = f ∷ front;
      name = name;
      rest = rest;
      parts = parts;
      within = within;
      stands = stands;
      object = inr (object_at_end rows held tree shows i d apart below none (f ∷ front) name rest within parts stands way.0 way.1 way.2 way.3 way.4.0 way.4.1);
      missing = inl missing;
    }

-- a field that isn't held is absent
shown_absent : (rows : List FieldRow) (held : List FieldPair) (tree : Data) → Shows rows held tree → (i : ℕ) (d : FieldRow) → AllPairs (λ one other. AreApart one.path other.path) rows → i < length rows
    → (get_or rows i d).path ≢ [] → value_at held (get_or rows i d).id ≡ None → IsAbsent tree (get_or rows i d).path
shown_absent rows held tree shows i d apart below some none = elim (stands_or_ends tree (get_or rows i d).path) [
  | inl r ↦
      let way = shows.least (get_or rows i d).path r.0 some r.1 in
      absurd ((no_way rows held i d apart below none way.0 way.1 way.2 way.3 way.4.0).1 way.4.1)
  | inr r ↦ ends_absent rows held tree shows i d apart below none r.0 r.1 r.2 r.3 r.4 r.5 r.6
]

pub some_path : (path : Names) → 0 < length path → path ≢ []
some_path path h e = let n : length path ≡ 0 = ap length e in omega arith

pub reads_back : (rows : List FieldRow) (held : List FieldPair) (tree : Data) → AreLawful rows → Fits rows held → Shows rows held tree → Reads Stored rows tree held
reads_back rows held tree lawful fits shows = record {
  map = fits.map;
  each = λ i d below. by i d below (value_at held (get_or rows i d).id) refl;
  only = fits.only;
}
  where
    by : (i : ℕ) (d : FieldRow) → i < length rows → (o : Option FieldValue) → value_at held (get_or rows i d).id ≡ o → IsRead Stored tree (get_or rows i d) (value_at held (get_or rows i d).id)
    by i d below None e = inr (shown_absent rows held tree shows i d lawful.apart below (some_path (get_or rows i d).path (lawful.each i d below).path.0.some) e, e)
    by i d below (Some v) e = inl (v, e, subst (λ o. IfSome o (IsHeld tree (get_or rows i d))) e (shows.each i d below))
