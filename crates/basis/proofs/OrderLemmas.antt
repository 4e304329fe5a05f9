-- Lists that rise strictly in an order: searched in halves, and determined by their elements.
use Rattle.std.proofs.Common.{◌≡◌, ◌↔◌, Contains, ◌⊎◌, inl, inr, ℕ, ◌+◌, ◌<◌, Ordering, Less, Equal, Greater, List, [], ◌∷◌, get_or, length, map, Ok, Err, refl, sym, ◌∙◌, ap, arith}
use Rattle.std.specs.Cmp.{IsTotalOrder}
use Rattle.std.specs.Cmp.Lexicographic.{slice_cmp}
use Rattle.std.specs.List.{AllByRecursion}
use Rattle.std.specs.Ordering.{on, nat_cmp, is_lt, ordering_reverse, ordering_then}
use Rattle.std.specs.List.Sorted.{IsStrictlySortedBy, IsSortedBy, IsBinarySearchResult}
use Rattle.std.proofs.lemmas.Bool.{cases_lt}
use Rattle.std.proofs.lemmas.Cmp.{tied_itself, on_total, nat_list_cmp_total}
use Rattle.std.proofs.lemmas.List.Elements.{All-contains, All-from_recursion, Contains-append_left, Contains-append_right, Contains-append_cases, Contains-push, Contains-push_cases}
use Rattle.std.proofs.lemmas.List.Sorted.{searchable_from_sorted}
use Rattle.std.proofs.lemmas.Map.Keys.{Less-from_sorted, sorted_head, sorted_tail}
use Rattle.std.proofs.lemmas.Map.Lookups.{CmpEqualImpliesEq}

-- a comparison by two keys in turn finds a tie where both do
pub then_tied : (o p : Ordering) → ordering_then o p ≡ Equal → (o ≡ Equal) × (p ≡ Equal)
then_tied Less p h = absurd (let e : Less ≡ Equal = h in cc)
then_tied Equal p h = (refl, h)
then_tied Greater p h = absurd (let e : Greater ≡ Equal = h in cc)

none_in : {X : Type 0} (z : X) {A : Type 0} → Contains [] z → A
none_in z h = absurd (let below : h.0 < 0 = h.1 in omega arith)

in_cons : {X : Type 0} (x : X) (xs : List X) (z : X) → Contains (x ∷ xs) z → (x ≡ z) ⊎ Contains xs z
in_cons x xs z h = elim (Contains-append_cases (x ∷ []) xs z h) [
  | inl here ↦ elim (Contains-push_cases [] x z here) [ inl none ↦ none_in z none | inr e ↦ inl e ]
  | inr later ↦ inr later
]

in_head : {X : Type 0} (x : X) (xs : List X) → Contains (x ∷ xs) x
in_head x xs = Contains-append_left (x ∷ []) xs x (Contains-push [] x)

module _ {K : Type 0} (R : K → K → Ordering) (o : IsTotalOrder R) where
  sorted_adjacent : (xs : List K) → IsStrictlySortedBy R xs → IsSortedBy (λ a b. is_lt (R a b)) xs
  sorted_adjacent xs rise = λ k d _ below.
      let before : k < k + 1 = omega arith in
      let less = Less-from_sorted R xs k (k + 1) d rise before below in
      ap is_lt (o.antisymm (get_or xs (k + 1) d) (get_or xs k d) ∙ ap ordering_reverse less)

  not_at : (key x : K) (c : Ordering) → R x key ≡ c → (c ≡ Equal → ⊥) → x ≡ key → ⊥
  not_at key x c is apart same = apart (sym is ∙ ap (λ k. R k key) same ∙ tied_itself o key)

  -- a search that ends in vain
  pub absent : (key : K) (xs : List K) (at : ℕ) → IsStrictlySortedBy R xs → IsBinarySearchResult (λ y. R y key) xs (Err at) → Contains xs key → ⊥
  absent key xs at rise searched there =
      let parts = searched (searchable_from_sorted o (λ y. y) xs key (sorted_adjacent xs rise)) in
      elim (cases_lt there.0 at) [
        | inl before ↦ not_at key (get_or xs there.0 key) Less (parts.0 there.0 key (omega arith) before) (λ e. cc) there.2
        | inr after ↦ not_at key (get_or xs there.0 key) Greater (parts.1 there.0 key after there.1) (λ e. cc) there.2
      ]

  -- a search that ends at an element
  pub present : CmpEqualImpliesEq R → (key : K) (xs : List K) (at : ℕ) → at < length xs → IsBinarySearchResult (λ y. R y key) xs (Ok at) → Contains xs key
  present exact key xs at below found = (at, below, exact (get_or xs at key) key (found key))

  above_head : (x : K) (xs : List K) (z : K) → IsStrictlySortedBy R (x ∷ xs) → Contains xs z → R x z ≡ Less
  above_head x xs z rise there = All-contains (λ y. R x y ≡ Less) xs z (All-from_recursion (λ y. R x y ≡ Less) xs (sorted_head R x xs rise)) there

  not_below_itself : (n m : K) → n ≡ m → R n m ≡ Less → ⊥
  not_below_itself n m same less =
      let tied : R n m ≡ Equal = ap (R n) (sym same) ∙ tied_itself o n in
      let clash : Less ≡ Equal = sym less ∙ tied in
      cc

  same_head : (x y : K) (xs ys : List K) → IsStrictlySortedBy R (x ∷ xs) → IsStrictlySortedBy R (y ∷ ys) → Contains (y ∷ ys) x → Contains (x ∷ xs) y → x ≡ y
  same_head x y xs ys a b h k = elim (in_cons y ys x h) [
    | inl same ↦ sym same
    | inr later ↦ elim (in_cons x xs y k) [
      | inl same ↦ same
      | inr after ↦ absurd (not_below_itself x x refl (o.trans x y x (above_head x xs y a after) (above_head y ys x b later)))
    ]
  ]

  tail_in : (x y : K) (xs ys : List K) (z : K) → x ≡ y → IsStrictlySortedBy R (x ∷ xs) → (Contains (x ∷ xs) z → Contains (y ∷ ys) z) → Contains xs z → Contains ys z
  tail_in x y xs ys z same a h there = elim (in_cons y ys z (h (Contains-append_right (x ∷ []) xs z there))) [
    | inl e ↦ absurd (not_below_itself x z (same ∙ e) (above_head x xs z a there))
    | inr later ↦ later
  ]

  -- what rises strictly is determined by its elements
  pub one_in_order : (xs ys : List K) → IsStrictlySortedBy R xs → IsStrictlySortedBy R ys → ((x : K) → Contains xs x ↔ Contains ys x) → xs ≡ ys
  one_in_order [] [] a b h = refl
  one_in_order [] (y ∷ ys) a b h = none_in y ((h y).1 (in_head y ys))
  one_in_order (x ∷ xs) [] a b h = none_in x ((h x).0 (in_head x xs))
  one_in_order (x ∷ xs) (y ∷ ys) a b h =
      let same : x ≡ y = same_head x y xs ys a b ((h x).0 (in_head x xs)) ((h y).1 (in_head y ys)) in
      let rest : xs ≡ ys = one_in_order xs ys (sorted_tail R x xs a) (sorted_tail R y ys b) (λ z. (tail_in x y xs ys z same a (h z).0, tail_in y x ys xs z (sym same) b (h z).1)) in
      ap (λ w. w ∷ xs) same ∙ ap (λ ws. y ∷ ws) rest

  -- and has no two elements that tie
  pub one_tied : (xs : List K) (x y : K) → IsStrictlySortedBy R xs → Contains xs x → Contains xs y → R x y ≡ Equal → x ≡ y
  one_tied [] x y rise h k tied = none_in x h
  one_tied (z ∷ zs) x y rise h k tied = elim (in_cons z zs x h) [
    | inl first ↦ elim (in_cons z zs y k) [
      | inl second ↦ sym first ∙ second
      | inr later ↦ absurd (let clash : Less ≡ Equal = sym (above_head z zs y rise later) ∙ ap (λ a. R a y) first ∙ tied in cc)
    ]
    | inr there ↦ elim (in_cons z zs y k) [
      | inl second ↦ absurd (let clash : Less ≡ Equal = sym (above_head z zs x rise there) ∙ ap (λ a. R a x) second ∙ o.antisymm y x ∙ ap ordering_reverse tied in cc)
      | inr later ↦ one_tied zs x y (sorted_tail R z zs rise) there later tied
    ]
  ]

-- lists that rise by a name
module _ {X : Type 0} (name : X → List ℕ) where
  abbrev by_name : X → X → Ordering
  by_name = on name (slice_cmp nat_cmp)

  all_above : (k : List ℕ) (xs : List X) → AllByRecursion (λ n. slice_cmp nat_cmp k n ≡ Less) (map name xs) → AllByRecursion (λ x. slice_cmp nat_cmp k (name x) ≡ Less) xs
  all_above k [] h = tt
  all_above k (x ∷ xs) h = (h.0, all_above k xs h.1)

  rising : (xs : List X) → IsStrictlySortedBy (slice_cmp nat_cmp) (map name xs) → IsStrictlySortedBy by_name xs
  unfolding IsStrictlySortedBy
  rising [] h = tt
  rising (x ∷ xs) h = (all_above (name x) xs h.0, rising xs h.1)

  -- what rises by name is determined by its elements
  pub one_by_name : (xs ys : List X) → IsStrictlySortedBy (slice_cmp nat_cmp) (map name xs) → IsStrictlySortedBy (slice_cmp nat_cmp) (map name ys) → ((x : X) → Contains xs x ↔ Contains ys x) → xs ≡ ys
  one_by_name xs ys a b h = one_in_order by_name (on_total name nat_list_cmp_total) xs ys (rising xs a) (rising ys b) h

  -- and has each name once
  pub one_named : (xs : List X) (x y : X) → IsStrictlySortedBy (slice_cmp nat_cmp) (map name xs) → Contains xs x → Contains xs y → name x ≡ name y → x ≡ y
  one_named xs x y rise h k same = one_tied by_name (on_total name nat_list_cmp_total) xs x y (rising xs rise) h k (ap (slice_cmp nat_cmp (name x)) (sym same) ∙ tied_itself nat_list_cmp_total (name x))
