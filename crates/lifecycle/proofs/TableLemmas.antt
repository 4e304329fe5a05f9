-- The tables of a release against the dated entries.
use Rattle.std.proofs.Common.{◌≡◌, ◌&&◌, ◌↔◌, not, ℕ, Bool, true, false, List, [], ◌∷◌, Option, Some, None, refl, sym, ◌∙◌, ap, cond, inl, inr}
use Rattle.std.specs.Prelude.{filter, find, nat_le, Any}
use Rattle.std.specs.List.{list_any}
use Rattle.std.specs.Option.{is_some, option_and_then}
use Rattle.std.specs.Str.{bytes_eq}
use Rattle.std.proofs.lemmas.Bool.{cases_Bool, cond-true, cond-false, and_parts, and_from, leb-true, le-leb, false≢true, not-true, not_from_false, false_from_ne_true, both_ways}
use Rattle.std.proofs.lemmas.List.Folds.{Any-from_list_any, list_any-from_Any}
use Rattle.std.proofs.lemmas.Slice.Eq.{bytes_eq-Decides}
use Rattle.lifecycle.specs.Entry.{GroupVersionResource, subject, IsKnownOf, IsIntroduction, IsRemoval, IsIntroduced, IsRemoved, IsLive}
use Rattle.lifecycle.specs.Tables.{cutoff, is_of, is_introduction, is_deprecation, is_removal, first_change, has_change, live, deprecation_of, warning}
use Rattle.lifecycle.specs.declared.entry.ApiEntry.{ApiEntry}
use Rattle.lifecycle.specs.declared.entry.ApiChange.{ApiChange}
use Rattle.lifecycle.specs.declared.entry.ApiChange.TheVariants.{Introduced, Deprecated, Removed, Forgotten}

-- the first that passes among those that pass another test
find-filter : {X : Type 0} (p q : X → Bool) (xs : List X) → find p (filter q xs) ≡ find (λ x. q x && p x) xs
find-filter p q [] = refl
find-filter p q (x ∷ xs) = elim (cases_Bool (q x)) [
  | inl passes ↦ rw passes (ap (λ o. cond (p x) (Some x) o) (find-filter p q xs))
  | inr fails ↦ rw fails (find-filter p q xs)
]

pub is_some-find : {X : Type 0} (p : X → Bool) (xs : List X) → is_some (find p xs) ≡ list_any p xs
is_some-find p [] = refl
is_some-find p (x ∷ xs) = elim (cases_Bool (p x)) [
  | inl passes ↦ rw passes refl
  | inr fails ↦ rw fails (is_some-find p xs)
]

pub first_change-cutoff : (test : ApiChange → Bool) (entries : List ApiEntry) (e : ℕ) (name : GroupVersionResource) → first_change test (cutoff entries e) name ≡ find (λ x. nat_le x.since e && (is_of name x && test x.change)) entries
first_change-cutoff test entries e name = find-filter (λ x. is_of name x && test x.change) (λ x. nat_le x.since e) entries

pub has_change-cutoff : (test : ApiChange → Bool) (entries : List ApiEntry) (e : ℕ) (name : GroupVersionResource) → has_change test (cutoff entries e) name ≡ list_any (λ x. nat_le x.since e && (is_of name x && test x.change)) entries
has_change-cutoff test entries e name = ap is_some (first_change-cutoff test entries e name) ∙ is_some-find (λ x. nat_le x.since e && (is_of name x && test x.change)) entries

-- introduced, and not changed in the other way
pub kept_then : (test out : ApiChange → Bool) (entries : List ApiEntry) (e : ℕ) (name : GroupVersionResource) (b d : Bool) → b ≡ list_any (λ x. nat_le x.since e && (is_of name x && test x.change)) entries
    → d ≡ list_any (λ x. nat_le x.since e && (is_of name x && out x.change)) entries → b ≡ true → not d ≡ (has_change test (cutoff entries e) name && not (has_change out (cutoff entries e) name))
kept_then test out entries e name b d is gone there =
    let one : has_change test (cutoff entries e) name ≡ true = has_change-cutoff test entries e name ∙ sym is ∙ there in
    let two : has_change out (cutoff entries e) name ≡ d = has_change-cutoff out entries e name ∙ sym gone in
    rw one (ap not (sym two))

pub kept_else : (test out : ApiChange → Bool) (entries : List ApiEntry) (e : ℕ) (name : GroupVersionResource) (b : Bool) → b ≡ list_any (λ x. nat_le x.since e && (is_of name x && test x.change)) entries
    → b ≡ false → b ≡ (has_change test (cutoff entries e) name && not (has_change out (cutoff entries e) name))
kept_else test out entries e name b is none =
    let one : has_change test (cutoff entries e) name ≡ false = has_change-cutoff test entries e name ∙ sym is ∙ none in
    rw one none

-- a version that the tables don't have live has no warning
pub warning_none : (entries : List ApiEntry) (e : ℕ) (name : GroupVersionResource) → live (cutoff entries e) name ≡ false → None ≡ warning (cutoff entries e) name
warning_none entries e name gone = rw gone refl

pub warning_by : (entries : List ApiEntry) (e : ℕ) (name : GroupVersionResource) (found : Option ApiEntry) → live (cutoff entries e) name ≡ true
    → found ≡ find (λ x. nat_le x.since e && (is_of name x && is_deprecation x.change)) entries → option_and_then (λ x. deprecation_of x.since x.change) found ≡ warning (cutoff entries e) name
warning_by entries e name found there is = rw there (ap (option_and_then (λ x. deprecation_of x.since x.change)) (is ∙ sym (first_change-cutoff is_deprecation entries e name)))

Any-map : {X : Type 0} (P Q : X → Type 0) (xs : List X) → ((x : X) → P x → Q x) → Any P xs → Any Q xs
Any-map P Q xs f h = (h.0, h.1, h.2, h.3, f h.1 h.4)

of_parts : (name : GroupVersionResource) (x : ApiEntry) → is_of name x ≡ true → (x.group ≡ name.group) × (x.version ≡ name.version) × (x.resource ≡ name.resource)
of_parts name x h =
    let (front, resource) = and_parts (bytes_eq x.group name.group && bytes_eq x.version name.version) (bytes_eq x.resource name.resource) h in
    let (group, version) = and_parts (bytes_eq x.group name.group) (bytes_eq x.version name.version) front in
    ((bytes_eq-Decides x.group name.group).0 group, (bytes_eq-Decides x.version name.version).0 version, (bytes_eq-Decides x.resource name.resource).0 resource)

of_from : (name : GroupVersionResource) (x : ApiEntry) → x.group ≡ name.group → x.version ≡ name.version → x.resource ≡ name.resource → is_of name x ≡ true
of_from name x a b c =
    and_from (bytes_eq x.group name.group && bytes_eq x.version name.version) (bytes_eq x.resource name.resource)
    (and_from (bytes_eq x.group name.group) (bytes_eq x.version name.version) ((bytes_eq-Decides x.group name.group).1 a) ((bytes_eq-Decides x.version name.version).1 b))
    ((bytes_eq-Decides x.resource name.resource).1 c)

-- an entry is of exactly one version
pub subject_is : (name : GroupVersionResource) (x : ApiEntry) → is_of name x ≡ true → subject x ≡ name
subject_is name x h = let parts = of_parts name x h in λ i. record { group = parts.0 i; version = parts.1 i; resource = parts.2 i }

pub is_of-subject : (name : GroupVersionResource) (x : ApiEntry) → subject x ≡ name → is_of name x ≡ true
is_of-subject name x same = of_from name x (ap (λ n. n.group) same) (ap (λ n. n.version) same) (ap (λ n. n.resource) same)

module _ (name : GroupVersionResource) (e : ℕ) where
  -- a change in the tables is a dated change of the history
  pub change_dated : (test : ApiChange → Bool) (Is : ApiChange → Type 0) (entries : List ApiEntry) → ((c : ApiChange) → (test c ≡ true) ↔ Is c) → (has_change test (cutoff entries e) name ≡ true) ↔ Any (λ x. IsKnownOf name e x × Is x.change) entries
  change_dated test Is entries says = (
    λ h.
        Any-map (λ x. (nat_le x.since e && (is_of name x && test x.change)) ≡ true) (λ x. IsKnownOf name e x × Is x.change) entries (λ x p.
        let (dated, rest) = and_parts (nat_le x.since e) (is_of name x && test x.change) p in
        let (of, change) = and_parts (is_of name x) (test x.change) rest in
        let parts = of_parts name x of in
        (record { group = parts.0; version = parts.1; resource = parts.2; dated = leb-true x.since e dated }, (says x.change).0 change))
        (Any-from_list_any (λ x. nat_le x.since e && (is_of name x && test x.change)) entries (sym (has_change-cutoff test entries e name) ∙ h)),
    λ h.
        has_change-cutoff test entries e name ∙ list_any-from_Any (λ x. nat_le x.since e && (is_of name x && test x.change)) entries
        (Any-map (λ x. IsKnownOf name e x × Is x.change) (λ x. (nat_le x.since e && (is_of name x && test x.change)) ≡ true) entries (λ x p.
        and_from (nat_le x.since e) (is_of name x && test x.change) (le-leb x.since e p.0.dated)
        (and_from (is_of name x) (test x.change) (of_from name x p.0.group p.0.version p.0.resource) ((says x.change).1 p.1)))
        h),
  )

introductions : (c : ApiChange) → (is_introduction c ≡ true) ↔ IsIntroduction c
introductions (Introduced kind singular namespaced enabled) = ((λ h. tt), (λ h. refl))
introductions (Deprecated removal replacement) = ((λ h. absurd (false≢true h)), (λ h. absurd h))
introductions Removed = ((λ h. absurd (false≢true h)), (λ h. absurd h))
introductions Forgotten = ((λ h. absurd (false≢true h)), (λ h. absurd h))

removals : (c : ApiChange) → (is_removal c ≡ true) ↔ IsRemoval c
removals (Introduced kind singular namespaced enabled) = ((λ h. absurd (false≢true h)), (λ h. absurd h))
removals (Deprecated removal replacement) = ((λ h. absurd (false≢true h)), (λ h. absurd h))
removals Removed = ((λ h. tt), (λ h. refl))
removals Forgotten = ((λ h. absurd (false≢true h)), (λ h. absurd h))

pub introduced_dated : (entries : List ApiEntry) (name : GroupVersionResource) (e : ℕ) → (has_change is_introduction (cutoff entries e) name ≡ true) ↔ IsIntroduced entries name e
introduced_dated entries name e = change_dated name e is_introduction IsIntroduction entries introductions

pub removed_dated : (entries : List ApiEntry) (name : GroupVersionResource) (e : ℕ) → (has_change is_removal (cutoff entries e) name ≡ true) ↔ IsRemoved entries name e
removed_dated entries name e = change_dated name e is_removal IsRemoval entries removals

-- live in the tables of a release is live at the release
pub live_dated : (entries : List ApiEntry) (name : GroupVersionResource) (e : ℕ) → (live (cutoff entries e) name ≡ true) ↔ IsLive entries name e
live_dated entries name e = (
  λ h.
      let parts = and_parts (has_change is_introduction (cutoff entries e) name) (not (has_change is_removal (cutoff entries e) name)) h in
      ((introduced_dated entries name e).0 parts.0, (λ r. both_ways (has_change is_removal (cutoff entries e) name) (not-true _ parts.1) ((removed_dated entries name e).1 r))),
  λ h.
      and_from (has_change is_introduction (cutoff entries e) name) (not (has_change is_removal (cutoff entries e) name)) ((introduced_dated entries name e).1 h.0)
      (not_from_false _ (false_from_ne_true _ (λ r. h.1 ((removed_dated entries name e).0 r)))),
)
