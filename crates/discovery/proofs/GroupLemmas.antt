-- Served versions in order: the first group, and those after it.
use Rattle.std.proofs.Common.{◌≡◌, ◌≢◌, ℕ, ◌<◌, not, Bool, true, false, Ordering, Less, Equal, Greater, List, [], ◌∷◌, ◌++◌, length, map, suc, get_or, refl, sym, ◌∙◌, ap, subst, cond, arith}
use Rattle.std.specs.Prelude.{filter}
use Rattle.std.specs.Cmp.Lexicographic.{slice_cmp}
use Rattle.std.specs.Ordering.{nat_cmp, ordering_reverse}
use Rattle.std.specs.List.{dedup, dedup_from, AllByRecursion}
use Rattle.std.specs.Str.{bytes_eq}
use Rattle.std.proofs.lemmas.Bool.{false_from_ne_true}
use Rattle.std.proofs.lemmas.Cmp.{nat_list_cmp_total}
use Rattle.std.proofs.lemmas.List.Elements.{All-from_recursion, recursion_from_All, All-filter, filter-append}
use Rattle.std.proofs.lemmas.List.Filters.{All-dedup}
use Rattle.std.proofs.lemmas.List.{append-nil, map-append}
use Rattle.std.proofs.lemmas.Map.Lookups.{exact_bytes}
use Rattle.std.proofs.lemmas.Slice.Eq.{bytes_eq-Decides}
use Rattle.serde_json.specs.Data.{Data}
use Rattle.basis.proofs.NameLemmas.{same_bytes}
use Rattle.release_view.specs.declared.served.ServedVersion.{ServedVersion}
use Rattle.discovery.specs.Groups.{is_in, versions_in, is_core, names_in, group_tree, group_trees}
use Rattle.discovery.specs.Order.{GroupsRise, AreIn, IsOfAnother}
use Rattle.discovery.proofs.DedupLemmas.{dedup_from-run}

other_bytes : (a b : List ℕ) → a ≢ b → bytes_eq a b ≡ false
other_bytes a b h = false_from_ne_true (bytes_eq a b) (λ e. h ((bytes_eq-Decides a b).0 e))

-- all are of other groups
abbrev AreOut : List ℕ → List ServedVersion → Type 0
AreOut group served = AllByRecursion (λ s. s.group ≢ group) served

all_own : (g : List ℕ) (own : List ServedVersion) → AreIn g own → filter (is_in g) own ≡ own
all_own g [] h = refl
all_own g (s ∷ own) h = rw (same_bytes s.group g h.0) (ap (λ xs. s ∷ xs) (all_own g own h.1))

none_own : (g : List ℕ) (xs : List ServedVersion) → AreOut g xs → filter (is_in g) xs ≡ []
none_own g [] h = refl
none_own g (s ∷ xs) h = rw (other_bytes s.group g h.0) (none_own g xs h.1)

own_out : (g k : List ℕ) (own : List ServedVersion) → AreIn g own → k ≢ g → AreOut k own
own_out g k [] h other = tt
own_out g k (s ∷ own) h other = ((λ e. other (sym e ∙ h.0)), own_out g k own h.1 other)

nil_append : {X : Type 0} (xs ys : List X) → xs ≡ [] → xs ++ ys ≡ ys
nil_append xs ys e = ap (λ zs. zs ++ ys) e

-- ---- in order

tied : (a b : List ℕ) (o : Ordering) → slice_cmp nat_cmp a b ≡ o → slice_cmp nat_cmp a b ≢ Greater → slice_cmp nat_cmp b a ≢ Greater → slice_cmp nat_cmp a b ≡ Equal
tied a b Less e h k = absurd (k (nat_list_cmp_total.antisymm b a ∙ ap ordering_reverse e))
tied a b Equal e h k = e
tied a b Greater e h k = absurd (h e)

not_both : (a b : List ℕ) → slice_cmp nat_cmp a b ≢ Greater → slice_cmp nat_cmp b a ≢ Greater → a ≡ b
not_both a b h k = exact_bytes a b (tied a b (slice_cmp nat_cmp a b) refl h k)

rises_later : (own others : List ServedVersion) → GroupsRise (own ++ others) → GroupsRise others
rises_later [] others h = h
rises_later (s ∷ own) others h = rises_later own others h.1

from_first : (P : ServedVersion → Type 0) (own others : List ServedVersion) → AllByRecursion P (own ++ others) → AllByRecursion P others
from_first P [] others h = h
from_first P (s ∷ own) others h = from_first P own others h.1

stay_out : (g : List ℕ) (y : ServedVersion) (ys : List ServedVersion) → y.group ≢ g → slice_cmp nat_cmp g y.group ≢ Greater → AllByRecursion (λ z. slice_cmp nat_cmp y.group z.group ≢ Greater) ys → AreOut g ys
stay_out g y [] apart low h = tt
stay_out g y (z ∷ zs) apart low h = ((λ e. apart (sym (not_both g y.group low (subst (λ k. slice_cmp nat_cmp y.group k ≢ Greater) e h.0)))), stay_out g y zs apart low h.1)

-- behind the versions of the first group none is of it
out_behind : (s : ServedVersion) (own others : List ServedVersion) → GroupsRise (s ∷ (own ++ others)) → IsOfAnother s.group others → AreOut s.group others
out_behind s own [] h next = tt
out_behind s own (y ∷ ys) h next =
    let low = from_first (λ z. slice_cmp nat_cmp s.group z.group ≢ Greater) own (y ∷ ys) h.0 in
    (next, stay_out s.group y ys next low.0 (rises_later own (y ∷ ys) h.1).0)

-- ---- the first group

module _ (s : ServedVersion) (own others : List ServedVersion) (all_in : AreIn s.group own) (out : AreOut s.group others) where
  abbrev whole : List ServedVersion
  whole = s ∷ (own ++ others)

  own_versions : versions_in whole s.group ≡ versions_in (s ∷ own) s.group
  own_versions =
      let one : filter (is_in s.group) (own ++ others) ≡ filter (is_in s.group) own =
      filter-append (is_in s.group) own others ∙ ap (λ ys. filter (is_in s.group) own ++ ys) (none_own s.group others out) ∙ append-nil (filter (is_in s.group) own) in
      ap (λ (xs : List ServedVersion). dedup bytes_eq (map (λ (v : ServedVersion). v.version) (cond (bytes_eq s.group s.group) (s ∷ xs) xs))) one

  other_versions : (k : List ℕ) → k ≢ s.group → versions_in whole k ≡ versions_in others k
  other_versions k apart =
      let none : filter (is_in k) (s ∷ own) ≡ [] = none_own k (s ∷ own) ((λ e. apart (sym e)), own_out s.group k own all_in apart) in
      ap (λ xs. dedup bytes_eq (map (λ (v : ServedVersion). v.version) xs)) (filter-append (is_in k) (s ∷ own) others ∙ nil_append (filter (is_in k) (s ∷ own)) (filter (is_in k) others) none)

  run_groups : (xs : List ServedVersion) → AreIn s.group xs → AllByRecursion (λ x. x ≡ s.group) (map (λ (v : ServedVersion). v.group) xs)
  run_groups [] h = tt
  run_groups (x ∷ xs) h = (h.0, run_groups xs h.1)

  next_group : (xs : List ServedVersion) → AreOut s.group xs → dedup_from bytes_eq s.group (map (λ (v : ServedVersion). v.group) xs) ≡ s.group ∷ dedup bytes_eq (map (λ (v : ServedVersion). v.group) xs)
  next_group [] h = refl
  next_group (x ∷ xs) h = rw (other_bytes x.group s.group h.0) refl

  groups_once : dedup bytes_eq (map (λ (v : ServedVersion). v.group) whole) ≡ s.group ∷ dedup bytes_eq (map (λ (v : ServedVersion). v.group) others)
  groups_once =
      ap (dedup_from bytes_eq s.group) (map-append (λ (v : ServedVersion). v.group) own others)
      ∙ dedup_from-run s.group (map (λ (v : ServedVersion). v.group) own) (map (λ (v : ServedVersion). v.group) others) (run_groups own all_in)
      ∙ next_group others out

  abbrev kept : List ℕ → Bool
  kept g = not (is_core g)

  abbrev tree_in : List ServedVersion → List ℕ → Data
  tree_in xs g = group_tree g (versions_in xs g)

  agree : (gs : List (List ℕ)) → AllByRecursion (λ g. g ≢ s.group) gs → map (tree_in whole) gs ≡ map (tree_in others) gs
  agree [] h = refl
  agree (g ∷ gs) h = ap (λ t. t ∷ map (tree_in whole) gs) (ap (group_tree g) (other_versions g h.0)) ∙ ap (λ ts. tree_in others g ∷ ts) (agree gs h.1)

  out_groups : (xs : List ServedVersion) → AreOut s.group xs → AllByRecursion (λ g. g ≢ s.group) (map (λ (v : ServedVersion). v.group) xs)
  out_groups [] h = tt
  out_groups (x ∷ xs) h = (h.0, out_groups xs h.1)

  other_names : AllByRecursion (λ g. g ≢ s.group) (names_in others)
  other_names =
      recursion_from_All (λ g. g ≢ s.group) (names_in others)
      (All-filter kept (λ g. g ≢ s.group) (dedup bytes_eq (map (λ (v : ServedVersion). v.group) others))
      (All-dedup bytes_eq (λ g. g ≢ s.group) (map (λ (v : ServedVersion). v.group) others)
      (All-from_recursion (λ g. g ≢ s.group) (map (λ (v : ServedVersion). v.group) others) (out_groups others out))))

  -- the core group isn't listed
  core_trees : is_core s.group ≡ true → group_trees whole ≡ group_trees others
  core_trees core =
      let names : names_in whole ≡ names_in others = ap (filter kept) groups_once ∙ ap (λ (b : Bool). cond (not b) (s.group ∷ names_in others) (names_in others)) core in
      ap (map (tree_in whole)) names ∙ agree (names_in others) other_names

  first_trees : is_core s.group ≡ false → group_trees whole ≡ tree_in (s ∷ own) s.group ∷ group_trees others
  first_trees named =
      let names : names_in whole ≡ s.group ∷ names_in others = ap (filter kept) groups_once ∙ ap (λ (b : Bool). cond (not b) (s.group ∷ names_in others) (names_in others)) named in
      ap (map (tree_in whole)) names ∙ ap (λ t. t ∷ map (tree_in whole) (names_in others)) (ap (group_tree s.group) own_versions) ∙ ap (λ ts. tree_in (s ∷ own) s.group ∷ ts) (agree (names_in others) other_names)

-- ---- the step of the list

pub record IsSplit (rest : List ServedVersion) (first : ServedVersion) (own others : List ServedVersion) : Type 0 where
  pub some : (xs : List ServedVersion) × (rest ≡ first ∷ xs)
  pub joined : rest ≡ own ++ others
  pub all_in : AreIn first.group own
  pub next : IsOfAnother first.group others

pub record IsStep (rest : List ServedVersion) (first : ServedVersion) (own others : List ServedVersion) : Type 0 where
  pub rises : GroupsRise others
  pub smaller : length others < length rest
  pub core : is_core first.group ≡ true → group_trees rest ≡ group_trees others
  pub listed : is_core first.group ≡ false → group_trees rest ≡ group_tree first.group (versions_in own first.group) ∷ group_trees others

first_of : (first x : ServedVersion) (xs ys : List ServedVersion) → first ∷ xs ≡ x ∷ ys → first ≡ x
first_of first x xs ys e = let f : List ServedVersion → ServedVersion = λ zs. elim zs [ [] ↦ first | z ∷ zs' ↦ z ] in ap f e

longer : (xs ys : List ServedVersion) → length ys < suc (length (xs ++ ys))
longer [] ys = omega arith
longer (x ∷ xs) ys = let h = longer xs ys in omega arith

pub step : (rest : List ServedVersion) (first : ServedVersion) (own others : List ServedVersion) → GroupsRise rest → IsSplit rest first own others → IsStep rest first own others
step rest first [] others rise split =
    let e : others ≡ first ∷ split.some.0 = sym split.joined ∙ split.some.1 in
    let next : IsOfAnother first.group (first ∷ split.some.0) = subst (IsOfAnother first.group) e split.next in
    absurd (next refl)
step rest first (s ∷ own) others rise split =
    let same : first ≡ s = first_of first s split.some.0 (own ++ others) (sym split.some.1 ∙ split.joined) in
    let whole : GroupsRise (s ∷ (own ++ others)) = subst GroupsRise split.joined rise in
    let group : first.group ≡ s.group = ap (λ (v : ServedVersion). v.group) same in
    let all : AreIn s.group own = subst (λ g. AreIn g own) group split.all_in.1 in
    let out = out_behind s own others whole (subst (λ g. IsOfAnother g others) group split.next) in
    record {
      rises = rises_later (s ∷ own) others whole;
      smaller = subst (λ xs. length others < length xs) (sym split.joined) (longer own others);
      core = λ core. ap group_trees split.joined ∙ core_trees s own others all out (ap is_core (sym group) ∙ core);
      listed = λ named. ap group_trees split.joined ∙ first_trees s own others all out (ap is_core (sym group) ∙ named) ∙ ap (λ g. group_tree g (versions_in (s ∷ own) g) ∷ group_trees others) (sym group);
    }

pub begins : (rest : List ServedVersion) (first : ServedVersion) → 0 < length rest → first ≡ get_or rest 0 first → (xs : List ServedVersion) × (rest ≡ first ∷ xs)
begins [] first some is = absurd (omega arith)
begins (x ∷ xs) first some is = (xs, ap (λ y. y ∷ xs) (sym is))
