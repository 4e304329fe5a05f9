-- The listed groups and versions are exactly the served ones.
use Rattle.std.proofs.Common.{◌≡◌, ◌≢◌, ◌↔◌, ◌⊎◌, ℕ, not, Bool, true, false, Ordering, Less, Equal, Greater, List, [], ◌∷◌, map, Any, Contains, refl, sym, ◌∙◌, ap, subst, cond, arith, inl, inr}
use Rattle.std.specs.Prelude.{filter}
use Rattle.std.specs.Cmp.Lexicographic.{slice_cmp}
use Rattle.std.specs.Ordering.{nat_cmp}
use Rattle.std.specs.List.{dedup, dedup_from, AllByRecursion}
use Rattle.std.specs.List.Sorted.{IsStrictlySortedBy}
use Rattle.std.specs.Str.{bytes_eq}
use Rattle.std.proofs.lemmas.Bool.{cases_Bool, false≢true}
use Rattle.std.proofs.lemmas.Bool.Decides.{nat_tests}
use Rattle.std.proofs.lemmas.Cmp.{nat_list_cmp_total}
use Rattle.std.proofs.lemmas.List.Elements.{All-from_recursion, recursion_from_All}
use Rattle.std.proofs.lemmas.List.Filters.{All-dedup}
use Rattle.std.proofs.lemmas.List.Kept.{Contains-from_dedup, IsStrictlySortedBy-filter}
use Rattle.std.proofs.lemmas.Map.Lookups.{exact_bytes}
use Rattle.std.proofs.lemmas.Slice.Eq.{bytes_eq-Decides}
use Rattle.basis.proofs.ElementLemmas.{Any-from}
use Rattle.release_view.specs.declared.served.ServedVersion.{ServedVersion}
use Rattle.release_view.proofs.ListLemmas.{Member, member, contained, witness}
use Rattle.discovery.specs.Groups.{is_in, is_core, names_in, versions_in}
use Rattle.discovery.specs.Laws.{AreListed}
use Rattle.discovery.specs.Order.{GroupsRise}

abbrev cmp : List ℕ → List ℕ → Ordering
cmp = slice_cmp nat_cmp

-- ---- order

less_at : (k x : List ℕ) (o : Ordering) → cmp k x ≡ o → cmp k x ≢ Greater → bytes_eq x k ≡ false → cmp k x ≡ Less
less_at k x Less e h apart = e
less_at k x Equal e h apart = absurd (false≢true (sym apart ∙ (bytes_eq-Decides x k).1 (sym (exact_bytes k x e))))
less_at k x Greater e h apart = absurd (h e)

less_on : (k x y : List ℕ) (o : Ordering) → cmp x y ≡ o → cmp k x ≡ Less → cmp x y ≢ Greater → cmp k y ≡ Less
less_on k x y Less e less h = nat_list_cmp_total.trans k x y less e
less_on k x y Equal e less h = subst (λ z. cmp k z ≡ Less) (exact_bytes x y e) less
less_on k x y Greater e less h = absurd (h e)

all_less : (k x : List ℕ) (xs : List ServedVersion) → cmp k x ≡ Less → AllByRecursion (λ s. cmp x s.group ≢ Greater) xs → AllByRecursion (λ y. cmp k y ≡ Less) (map (λ (s : ServedVersion). s.group) xs)
all_less k x [] less h = tt
all_less k x (s ∷ xs) less h = (less_on k x s.group (cmp x s.group) refl less h.0, all_less k x xs less h.1)

strict_cons : (k : List ℕ) (ks : List (List ℕ)) → AllByRecursion (λ y. cmp k y ≡ Less) ks → IsStrictlySortedBy cmp ks → IsStrictlySortedBy cmp (k ∷ ks)
unfolding IsStrictlySortedBy
strict_cons k ks h g = (h, g)

strict_nil : IsStrictlySortedBy cmp []
unfolding IsStrictlySortedBy
strict_nil = tt

strict_from : (k : List ℕ) (xs : List ServedVersion) → AllByRecursion (λ s. cmp k s.group ≢ Greater) xs → GroupsRise xs → IsStrictlySortedBy cmp (dedup_from bytes_eq k (map (λ (s : ServedVersion). s.group) xs))
strict_from k [] h rise = strict_cons k [] tt strict_nil
strict_from k (x ∷ xs) h rise = elim (cases_Bool (bytes_eq x.group k)) [
  | inl same ↦ rw same (strict_from k xs h.1 rise.1)
  | inr apart ↦
      (let less = less_at k x.group (cmp k x.group) refl h.0 apart in
      let groups : List (List ℕ) = map (λ (s : ServedVersion). s.group) xs in
      let above : AllByRecursion (λ y. cmp k y ≡ Less) (dedup_from bytes_eq x.group groups) =
      recursion_from_All (λ y. cmp k y ≡ Less) (dedup_from bytes_eq x.group groups)
      (All-dedup bytes_eq (λ y. cmp k y ≡ Less) (x.group ∷ groups) (All-from_recursion (λ y. cmp k y ≡ Less) (x.group ∷ groups) (less, all_less k x.group xs less rise.0))) in
      rw apart (strict_cons k (dedup_from bytes_eq x.group groups) above (strict_from x.group xs rise.0 rise.1)))
]

strict_groups : (xs : List ServedVersion) → GroupsRise xs → IsStrictlySortedBy cmp (dedup bytes_eq (map (λ (s : ServedVersion). s.group) xs))
strict_groups [] rise = strict_nil
strict_groups (x ∷ xs) rise = strict_from x.group xs rise.0 rise.1

-- ---- elements

from_at : {X : Type 0} (p : X → Bool) (x : X) (xs : List X) (w : X) (b : Bool) → p x ≡ b → Member w (cond b (x ∷ filter p xs) (filter p xs)) → (Member w (filter p xs) → Member w xs × (p w ≡ true)) → Member w (x ∷ xs) × (p w ≡ true)
from_at p x xs w true e (inl same) later = (inl same, ap p (sym same) ∙ e)
from_at p x xs w true e (inr h) later = let r = later h in (inr r.0, r.1)
from_at p x xs w false e h later = let r = later h in (inr r.0, r.1)

from_filter : {X : Type 0} (p : X → Bool) (xs : List X) (w : X) → Member w (filter p xs) → Member w xs × (p w ≡ true)
from_filter p [] w h = absurd h
from_filter p (x ∷ xs) w h = from_at p x xs w (p x) refl h (from_filter p xs w)

to_at : {X : Type 0} (p : X → Bool) (x : X) (xs : List X) (w : X) (b : Bool) → p x ≡ b → Member w (x ∷ xs) → p w ≡ true → (Member w xs → Member w (filter p xs)) → Member w (cond b (x ∷ filter p xs) (filter p xs))
to_at p x xs w true e (inl same) passes later = inl same
to_at p x xs w true e (inr h) passes later = inr (later h)
to_at p x xs w false e (inl same) passes later = absurd (false≢true (sym e ∙ ap p same ∙ passes))
to_at p x xs w false e (inr h) passes later = later h

to_filter : {X : Type 0} (p : X → Bool) (xs : List X) (w : X) → Member w xs → p w ≡ true → Member w (filter p xs)
to_filter p [] w h passes = absurd h
to_filter p (x ∷ xs) w h passes = to_at p x xs w (p x) refl h passes (λ later. to_filter p xs w later passes)

from_map : {X Y : Type 0} (f : X → Y) (xs : List X) (y : Y) → Member y (map f xs) → (x : X) × Member x xs × (f x ≡ y)
from_map f [] y h = absurd h
from_map f (x ∷ xs) y (inl same) = (x, inl refl, same)
from_map f (x ∷ xs) y (inr h) = let r = from_map f xs y h in (r.0, inr r.1, r.2)

to_map : {X Y : Type 0} (f : X → Y) (xs : List X) (x : X) → Member x xs → Member (f x) (map f xs)
to_map f [] x h = absurd h
to_map f (z ∷ xs) x (inl same) = inl (ap f same)
to_map f (z ∷ xs) x (inr h) = inr (to_map f xs x h)

kept_at : (k : List ℕ) (x : List ℕ) (xs : List (List ℕ)) (w : List ℕ) (b : Bool) → bytes_eq x k ≡ b → (k ≡ w) ⊎ Member w (x ∷ xs) → ((k ≡ w) ⊎ Member w xs → Member w (dedup_from bytes_eq k xs)) → ((x ≡ w) ⊎ Member w xs → Member w (dedup_from bytes_eq x xs))
    → Member w (cond b (dedup_from bytes_eq k xs) (k ∷ dedup_from bytes_eq x xs))
kept_at k x xs w true e (inl same) one two = one (inl same)
kept_at k x xs w true e (inr (inl same)) one two = one (inl (sym ((bytes_eq-Decides x k).0 e) ∙ same))
kept_at k x xs w true e (inr (inr h)) one two = one (inr h)
kept_at k x xs w false e (inl same) one two = inl same
kept_at k x xs w false e (inr h) one two = inr (two h)

kept_from : (k : List ℕ) (xs : List (List ℕ)) (w : List ℕ) → (k ≡ w) ⊎ Member w xs → Member w (dedup_from bytes_eq k xs)
kept_from k [] w (inl same) = inl same
kept_from k [] w (inr h) = absurd h
kept_from k (x ∷ xs) w h = kept_at k x xs w (bytes_eq x k) refl h (kept_from k xs w) (kept_from x xs w)

to_dedup : (xs : List (List ℕ)) (w : List ℕ) → Member w xs → Member w (dedup bytes_eq xs)
to_dedup [] w h = absurd h
to_dedup (x ∷ xs) w h = kept_from x xs w h

from_dedup : (xs : List (List ℕ)) (w : List ℕ) → Member w (dedup bytes_eq xs) → Member w xs
from_dedup xs w h = member xs w (Contains-from_dedup bytes_eq xs w (contained (dedup bytes_eq xs) w h))

not_empty : (g : List ℕ) → not (is_core g) ≡ true → g ≢ []
not_empty [] h e = false≢true h
not_empty (c ∷ cs) h e = let clash : c ∷ cs ≡ [] = e in cc

is_named : (g : List ℕ) → g ≢ [] → not (is_core g) ≡ true
is_named [] h = absurd (h refl)
is_named (c ∷ cs) h = grind (arith, nat_tests)

module _ (served : List ServedVersion) where
  abbrev groups : List (List ℕ)
  groups = map (λ (s : ServedVersion). s.group) served

  names_exact : (g : List ℕ) → Contains (names_in served) g ↔ ((g ≢ []) × Any (λ s. s.group ≡ g) served)
  names_exact g = (
    λ there.
        let (kept, named) = from_filter (λ k. not (is_core k)) (dedup bytes_eq groups) g (member (names_in served) g there) in
        let (s, among, is) = from_map (λ (s : ServedVersion). s.group) served g (from_dedup groups g kept) in
        (not_empty g named, Any-from (λ s. s.group ≡ g) served s (contained served s among) is),
    λ listed.
        let (s, among, is) = witness (λ s. s.group ≡ g) served listed.1 in
        let one : Member g groups = subst (λ k. Member k groups) is (to_map (λ (s : ServedVersion). s.group) served s (member served s among)) in
        contained (names_in served) g (to_filter (λ k. not (is_core k)) (dedup bytes_eq groups) g (to_dedup groups g one) (is_named g listed.0)),
  )

  versions_exact : (g v : List ℕ) → Contains (versions_in served g) v ↔ Any (λ s. (s.group ≡ g) × (s.version ≡ v)) served
  versions_exact g v =
      let own : List ServedVersion = filter (is_in g) served in
      let texts : List (List ℕ) = map (λ (s : ServedVersion). s.version) own in (
        λ there.
            let (s, among, is) = from_map (λ (s : ServedVersion). s.version) own v (from_dedup texts v (member (versions_in served g) v there)) in
            let (inside, passes) = from_filter (is_in g) served s among in
            Any-from (λ s. (s.group ≡ g) × (s.version ≡ v)) served s (contained served s inside) ((bytes_eq-Decides s.group g).0 passes, is),
        λ any.
            let (s, among, is) = witness (λ s. (s.group ≡ g) × (s.version ≡ v)) served any in
            let inside : Member s own = to_filter (is_in g) served s (member served s among) ((bytes_eq-Decides s.group g).1 is.0) in
            let text : Member v texts = subst (λ w. Member w texts) is.1 (to_map (λ (s : ServedVersion). s.version) own s inside) in
            contained (versions_in served g) v (to_dedup texts v text),
      )

  pub are_listed : GroupsRise served → AreListed served
  are_listed rise = record {
    order = IsStrictlySortedBy-filter cmp (λ k. not (is_core k)) (dedup bytes_eq groups) (strict_groups served rise);
    exact = names_exact;
    versions = versions_exact;
  }
