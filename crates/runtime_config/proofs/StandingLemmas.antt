-- How the standings of keys grow by a row.
use Rattle.std.proofs.Common.{◌≡◌, ◌&&◌, ◌||◌, ℕ, Bool, true, false, List, [], ◌∷◌, ◌++◌, Some, refl, sym, ◌∙◌, ap, subst, inl, inr, length, take, get_or, ◌+◌, ◌<◌, string_bytes}
use Rattle.std.specs.Prelude.{nat_le, if◌then◌else◌}
use Rattle.std.specs.Ordering.{nat_cmp}
use Rattle.std.specs.Str.{bytes_eq}
use Rattle.std.specs.List.{list_any}
use Rattle.std.specs.Cmp.Lexicographic.{slice_cmp}
use Rattle.std.specs.BTreeMap.{BTreeMap, get, Updates, is_at}
use Rattle.std.proofs.lemmas.Bool.{cases_Bool, cond-true, cond-false}
use Rattle.std.proofs.lemmas.Slice.Eq.{bytes_eq-Decides}
use Rattle.std.proofs.lemmas.List.Folds.{list_any-append}
use Rattle.flag_text.proofs.LastLemmas.{at_bytes}
use Rattle.basis.proofs.NameLemmas.{bytes_turned}
use Rattle.lifecycle.specs.Entry.{subject}
use Rattle.lifecycle.specs.Tables.{is_introduction, live}
use Rattle.lifecycle.specs.declared.entry.ApiEntry.{ApiEntry}
use Rattle.runtime_config.specs.Keys.{names, version_key}
use Rattle.runtime_config.specs.Rows.{HasItsKeys, entries_of}
use Rattle.std.specs.List.{AllByRecursion}
use Rattle.std.proofs.lemmas.List.{map_more}
use Rattle.std.proofs.lemmas.List.Elements.{All-from_recursion}
use Rattle.runtime_config.specs.Standings.{standing_of, standing, HasStandings}
use Rattle.runtime_config.specs.Merges.{merged, own_standing, Raises, TakesIn}
use Rattle.runtime_config.specs.declared.keys.Row.{Row}
use Rattle.runtime_config.specs.declared.standing.Standing.{Standing}
use Rattle.runtime_config.specs.declared.standing.Standing.TheVariants.{Later, Gone, Live}

abbrev Standings : Type 0
Standings = BTreeMap (List ℕ) Standing

-- what an insertion under the key leaves
pub raised : (m n : Standings) (key : List ℕ) (own new : Standing) → new ≡ merged (get (slice_cmp nat_cmp) m key) own → Updates (slice_cmp nat_cmp) m n key (Some new) → Raises m n key own
raised m n key own new is updates q = elim (cases_Bool (bytes_eq key q)) [
  | inl same ↦
      let at : is_at (slice_cmp nat_cmp key) q ≡ true = at_bytes key q ∙ same in
      let here : get (slice_cmp nat_cmp) n q ≡ Some new = updates.0 q ∙ cond-true (is_at (slice_cmp nat_cmp key) q) (Some new) (get (slice_cmp nat_cmp) m q) at in
      let found : get (slice_cmp nat_cmp) m key ≡ get (slice_cmp nat_cmp) m q = ap (get (slice_cmp nat_cmp) m) ((bytes_eq-Decides key q).0 same) in
      here ∙ ap Some (is ∙ ap (λ o. merged o own) found) ∙ sym (cond-true (bytes_eq q key) (Some (merged (get (slice_cmp nat_cmp) m q) own)) (get (slice_cmp nat_cmp) m q) (bytes_turned q key ∙ same))
  | inr apart ↦
      updates.2 q (at_bytes key q ∙ apart) ∙ sym (cond-false (bytes_eq q key) (Some (merged (get (slice_cmp nat_cmp) m q) own)) (get (slice_cmp nat_cmp) m q) (bytes_turned q key ∙ apart))
]

or_false : (b : Bool) → (b || false) ≡ b
or_false true = refl
or_false false = refl

abbrev own_of : Bool → Bool → Bool → Standing
own_of dated live introduction = (if dated then (if live then Live else (if introduction then Gone else Later)) else Later)

-- a named entry more
more_named : (some introduced live' dated live introduction : Bool) → standing_of (some || true) (introduced || (dated && introduction)) (live' || (dated && live)) ≡ Some (merged (standing_of some introduced live') (own_of dated live introduction))
more_named some introduced true dated live introduction = refl
more_named some true false false live introduction = refl
more_named true false false false live introduction = refl
more_named false false false false live introduction = refl
more_named some true false true true introduction = refl
more_named true false false true true introduction = refl
more_named false false false true true introduction = refl
more_named some true false true false true = refl
more_named true false false true false true = refl
more_named false false false true false true = refl
more_named some true false true false false = refl
more_named true false false true false false = refl
more_named false false false true false false = refl

module _ (tables : List ApiEntry) (e : ℕ) (key : List ℕ) where
  standing_named : (xs : List ApiEntry) (x : ApiEntry) → names key (subject x) ≡ true → standing tables e (xs ++ x ∷ []) key ≡ Some (merged (standing tables e xs key) (own_standing tables e x))
  standing_named xs x named =
      let some = list_any-append (λ y. names key (subject y)) xs (x ∷ []) in
      let introduced = list_any-append (λ y. nat_le y.since e && (names key (subject y) && is_introduction y.change)) xs (x ∷ []) in
      let living = list_any-append (λ y. nat_le y.since e && (names key (subject y) && live tables (subject y))) xs (x ∷ []) in
      rw (some, introduced, living, named, or_false (nat_le x.since e && is_introduction x.change), or_false (nat_le x.since e && live tables (subject x)))
      (more_named (list_any (λ y. names key (subject y)) xs) (list_any (λ y. nat_le y.since e && (names key (subject y) && is_introduction y.change)) xs)
      (list_any (λ y. nat_le y.since e && (names key (subject y) && live tables (subject y))) xs) (nat_le x.since e) (live tables (subject x)) (is_introduction x.change))

  and_false : (b : Bool) → (b && false) ≡ false
  and_false true = refl
  and_false false = refl

  standing_other : (xs : List ApiEntry) (x : ApiEntry) → names key (subject x) ≡ false → standing tables e (xs ++ x ∷ []) key ≡ standing tables e xs key
  standing_other xs x other =
      let some = list_any-append (λ y. names key (subject y)) xs (x ∷ []) in
      let introduced = list_any-append (λ y. nat_le y.since e && (names key (subject y) && is_introduction y.change)) xs (x ∷ []) in
      let living = list_any-append (λ y. nat_le y.since e && (names key (subject y) && live tables (subject y))) xs (x ∷ []) in
      rw (
        some,
        introduced,
        living,
        other,
        and_false (nat_le x.since e),
        or_false (list_any (λ y. names key (subject y)) xs),
        or_false (list_any (λ y. nat_le y.since e && (names key (subject y) && is_introduction y.change)) xs),
        or_false (list_any (λ y. nat_le y.since e && (names key (subject y) && live tables (subject y))) xs),
      ) refl

-- the standings behind one more row
pub standings_more : (tables : List ApiEntry) (e : ℕ) (xs : List ApiEntry) (row : Row) (own : Standing) (m n : Standings) → HasItsKeys row → own ≡ own_standing tables e row.entry.now → TakesIn m n row own → HasStandings tables e xs m → HasStandings tables e (xs ++ row.entry.now ∷ []) n
standings_more tables e xs row own m n keys is taken before = record {
  at = λ key.
      let x : ApiEntry = row.entry.now in
      let test : (bytes_eq key (string_bytes row.version) || bytes_eq key (string_bytes row.resource)) ≡ names key (subject x) = ap (λ (s : List ℕ). bytes_eq key s || bytes_eq key (string_bytes row.resource)) keys.version ∙ ap (λ (s : List ℕ). bytes_eq key (version_key (subject x)) || bytes_eq key s) keys.resource in
      let old = before.at key in
      elim (cases_Bool (names key (subject x))) [
        | inl named ↦
            taken key ∙ cond-true _ (Some (merged (get (slice_cmp nat_cmp) m key) own)) (get (slice_cmp nat_cmp) m key) (test ∙ named) ∙ ap (λ o. Some (merged o own)) old ∙ ap (λ s. Some (merged (standing tables e xs key) s)) is
            ∙ sym (standing_named tables e key xs x named)
        | inr other ↦
            taken key ∙ cond-false _ (Some (merged (get (slice_cmp nat_cmp) m key) own)) (get (slice_cmp nat_cmp) m key) (test ∙ other) ∙ old ∙ sym (standing_other tables e key xs x other)
      ];
}

-- the same, for the row at a place of the list
pub standings_at : (tables : List ApiEntry) (e : ℕ) (rows : List Row) (k : ℕ) (row : Row) (own : Standing) (m n : Standings) → k < length rows → row ≡ get_or rows k row → AllByRecursion HasItsKeys rows → own ≡ own_standing tables e row.entry.now → TakesIn m n row own
    → HasStandings tables e (entries_of (take k rows)) m → HasStandings tables e (entries_of (take (k + 1) rows)) n
standings_at tables e rows k row own m n below is keys says taken before =
    let its : HasItsKeys row = subst HasItsKeys (sym is) (All-from_recursion HasItsKeys rows keys k row below) in
    let grown : entries_of (take (k + 1) rows) ≡ entries_of (take k rows) ++ row.entry.now ∷ [] = map_more (λ (r : Row). r.entry.now) rows k row below ∙ ap (λ (r : Row). entries_of (take k rows) ++ r.entry.now ∷ []) (sym is) in
    subst (λ xs. HasStandings tables e xs n) (sym grown) (standings_more tables e (entries_of (take k rows)) row own m n its says taken before)
